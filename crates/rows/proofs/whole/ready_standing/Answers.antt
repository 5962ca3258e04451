-- `ready_standing` meets its contract, by cases on the place.
use Rattle.machine.specs.All.{eq-eqb, ne_eqb}
use Rattle.rows_laws.specs.All.{ready_standing}
use Rattle.rows.proofs.whole.ready_standing.Goals as goal

pub returns-then-q-number : goal.returns-then-q-number
unfolding ready_standing
returns-then-q-number c = rw (← c.number.ensures.same, eq-eqb _ _ c.if-q-number.true)

pub returns-else-q-number : goal.returns-else-q-number
unfolding ready_standing
returns-else-q-number c = rw (← c.number.ensures.same, ne_eqb _ _ c.if-q-number.false)
