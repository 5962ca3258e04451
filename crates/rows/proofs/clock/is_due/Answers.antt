-- `is_due` meets its contract, by cases on whether the FEL has a first.
use Rattle.machine.specs.All.{lt-ltb, le-ltb}
use Rattle.rows_laws.specs.All.{is_due}
use Rattle.rows.proofs.clock.is_due.Goals as goal

pub returns-in-Some : goal.returns-in-Some
unfolding is_due
returns-in-Some c = rw (c.in-Some.ensures.0, lt-ltb _ 1024 c.in-Some.ensures.1, ← c.time.ensures)

pub returns-in-None : goal.returns-in-None
unfolding is_due
returns-in-None c = rw (le-ltb _ 1024 c.in-None.ensures)
