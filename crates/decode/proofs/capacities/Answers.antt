-- `capacities` meets its contract. The loop's invariant: the capacities from k on give what all capacities give.
use Rattle.machine.specs.All.{◌+◌, ◌*◌, arith, ◌≡◌, refl}
use Rattle.parse_values.proofs.Filled.{rows_passed, from-none, from-stop, from_step, from_all, times-rows}
use Rattle.decode.proofs.capacities.Goals as goal

pub returns-in_err-q : goal.returns-in_err-q
returns-in_err-q c =
    let e : 2560 + c.args.m.facilities + c.loop-k.k ≡ 2560 + c.args.m.facilities + 1 * c.loop-k.k = omega arith in
    rows_passed c.from_residual.ensures.1
    (rw (times-rows _ _ 0)
    (from_all _ _ _ _ _ _ (c.loop-k.invariant _ _ (from-stop _ _ _ _ _ _ c.loop-k-test.true (rw e at c.in_err-q.ensures) _ refl))))

pub loop-k-preserved : goal.loop-k-preserved
loop-k-preserved c =
    let e : 2560 + c.args.m.facilities + c.loop-k.k ≡ 2560 + c.args.m.facilities + 1 * c.loop-k.k = omega arith in
    λ after r h.
    c.loop-k.invariant after r
    (from_step _ _ _ _ _ _ c.loop-k-test.true (rw e at c.in_ok-q.ensures) refl (λ a f. (f.0, f.1)) after r h)

pub returns : goal.returns
returns c =
    rw (times-rows _ _ 0) (from_all _ _ _ _ _ _ (c.loop-k.invariant _ _ (from-none _ _ _ _ _ _ _ _ _ c.loop-k-test.false)))
