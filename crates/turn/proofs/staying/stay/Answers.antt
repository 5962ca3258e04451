-- `stay` meets its contract, by cases on whether there is a first.
use Rattle.machine.specs.All.{lt-ltb, le-ltb}
use Rattle.rows_laws.specs.All.{remove_at}
use Rattle.turn_laws.specs.Staying.{stayed}
use Rattle.turn.proofs.staying.stay.Goals as goal

pub returns-in-Some : goal.returns-in-Some
unfolding stayed
returns-in-Some c =
    rw (c.in-Some.ensures.row.0, lt-ltb _ 1024 c.in-Some.ensures.row.1, ← c.in-Some.ensures.rows) c.put.ensures

pub returns-in_default : goal.returns-in_default
unfolding stayed remove_at
returns-in_default c = rw (c.in_default.ensures.rows, le-ltb _ 1024 c.in_default.ensures.row)
