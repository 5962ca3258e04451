-- `columns::measure::measure` meets its contract. The loop's invariant: with what is still to come, the totals are those of the whole
-- trace. The measure is how many records more there may be.
use Rattle.machine.specs.All.{◌-◌, ◌≡◌}
use Rattle.columns_laws.specs.{Columns.max_records, Walks.Short, Walks.at_start}
use Rattle.columns_laws.proofs.Measuring.{Rest}
use Rattle.columns.proofs.measure.measure.Given as goal

abbrev pub invariant-loop-t : goal.invariant-loop-t
invariant-loop-t l = Short l.count l.t × (Rest l.s l.count l.t ≡ Rest l.s 0 at_start)

abbrev pub decreases-loop-t : goal.decreases-loop-t
decreases-loop-t l = max_records - l.count
