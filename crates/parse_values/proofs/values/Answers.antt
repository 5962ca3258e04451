-- `values` meets its contract. The loop's invariant: the values from k on give what all values give.
use Rattle.machine.specs.All.{refl}
use Rattle.parse_values.proofs.Filled.{rows_passed, from-none, from-stop, from_step, from_all, values-rows}
use Rattle.parse_values.proofs.values.Goals as goal

pub returns-in_err-q : goal.returns-in_err-q
returns-in_err-q c =
    rows_passed c.from_residual.ensures.1
    (rw values-rows
    (from_all _ _ _ _ _ _ (c.loop-k.invariant _ _ (from-stop _ _ _ _ _ _ c.loop-k-test.true c.in_err-q.ensures _ refl))))

pub loop-k-preserved : goal.loop-k-preserved
loop-k-preserved c = λ after r h.
    c.loop-k.invariant after r (from_step _ _ _ _ _ _ c.loop-k-test.true c.in_ok-q.ensures refl (λ a f. f) after r h)

pub returns : goal.returns
returns c =
    rw values-rows (from_all _ _ _ _ _ _ (c.loop-k.invariant _ _ (from-none _ _ _ _ _ _ _ _ _ c.loop-k-test.false)))
