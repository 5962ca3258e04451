-- `blocks` meets its contract. The loop's invariant: the blocks from b on give what all blocks give, and the capacities stand
-- as they did.
use Rattle.machine.specs.All.{arith, refl, ◌∙◌}
use Rattle.parse_values.proofs.Filled.{rows_passed, from-none, from-stop, from_step, from_all, times-rows}
use Rattle.program.proofs.Steps.{block-capacities}
use Rattle.program.proofs.blocks.Goals as goal

pub returns-in_err-q : goal.returns-in_err-q
returns-in_err-q c =
    let w = c.loop-b.invariant in
    rows_passed c.from_residual.ensures.1
    (rw (times-rows _ _ 0)
    (from_all _ _ _ _ _ _ (w.1 _ _ (from-stop _ _ _ _ _ _ c.loop-b-test.true (rw w.0 at c.in_err-q.ensures) _ refl))))

pub loop-b-preserved : goal.loop-b-preserved
loop-b-preserved c =
    let w = c.loop-b.invariant in (
      block-capacities c.args.m _ (omega arith) c.in_ok-q.ensures refl ∙ w.0,
      λ after r h.
          w.1 after r (from_step _ _ _ _ _ _ c.loop-b-test.true (rw w.0 at c.in_ok-q.ensures) refl (λ a f. f) after r h),
    )

pub returns : goal.returns
returns c =
    rw (times-rows _ _ 0) (from_all _ _ _ _ _ _ (c.loop-b.invariant.1 _ _ (from-none _ _ _ _ _ _ _ _ _ c.loop-b-test.false)))
