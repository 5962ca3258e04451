-- `ready_row` meets its contract: both numbers are read first.
use Rattle.std.specs.Int.{from_bool}
use Rattle.machine.specs.All.{◌≡◌, refl, ◌∙◌, Bool, true, false, cond}
use Rattle.rows_laws.specs.All.{ready_row, one_if}
use Rattle.rows.proofs.whole.ready_row.Goals as goal

as_number : (b : Bool) → from_bool b ≡ cond b 1 0
as_number true = refl
as_number false = refl

pub returns-clause-rows : goal.returns-clause-rows
unfolding ready_row
returns-clause-rows c = cc

pub returns-clause-count : goal.returns-clause-count
unfolding one_if
returns-clause-count c = rw (← c.get-q.ensures, ← c.number.ensures.same) (c.from.ensures ∙ as_number _)
