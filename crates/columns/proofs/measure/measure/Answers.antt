-- `columns::measure::measure` meets its contract. The loop's invariant: with what is still to come, the totals are those of the whole
-- trace. The measure is how many records more there may be.
use Rattle.machine.specs.All.{refl, sym, ◌∙◌, arith}
use Rattle.columns_laws.proofs.Measuring.{step-refused, step-taken, step_end}
use Rattle.columns.proofs.measure.measure.Goals as goal

pub loop-t-init : goal.loop-t-init
loop-t-init c = (
  record { few = omega arith; differences = omega arith; transactions = omega arith; blocks = omega arith; outcomes = omega arith },
  refl,
)

pub measure_record-requires : goal.measure_record-requires
measure_record-requires c = c.loop-t.invariant.0

pub returns-in_err-count : goal.returns-in_err-count
returns-in_err-count c =
    rw c.from_residual.ensures
    (step-refused _ _ _ c.loop-t.invariant.0 c.loop-t-test.true (sym c.in_err-count.was ∙ c.measure_record.ensures) ∙ c.loop-t.invariant.1)

pub loop-t-smaller : goal.loop-t-smaller
loop-t-smaller c =
    let st = step-taken _ _ _ c.loop-t.invariant.0 _ _ (sym c.in_ok-count.was ∙ c.measure_record.ensures) in
    omega (arith, st.room, st.count-more)

pub loop-t-preserved : goal.loop-t-preserved
loop-t-preserved c =
    let st = step-taken _ _ _ c.loop-t.invariant.0 _ _ (sym c.in_ok-count.was ∙ c.measure_record.ensures) in
    (st.short, st.same ∙ c.loop-t.invariant.1)

pub returns : goal.returns
returns c =
    step_end _ _ _ c.loop-t.invariant.0 c.loop-t-test.false ∙ c.loop-t.invariant.1
