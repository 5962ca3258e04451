-- `after` meets its contract, by cases on whether the cell holds a row.
use Rattle.machine.specs.All.{lt-ltb, le-ltb}
use Rattle.rows_laws.specs.All.{after}
use Rattle.rows.proofs.wake.after.Goals as goal

pub returns-in-Some : goal.returns-in-Some
unfolding after
returns-in-Some c = rw (c.in-Some.ensures.0, lt-ltb _ 1024 c.in-Some.ensures.1) c.link.ensures.cell

pub returns-in-None : goal.returns-in-None
unfolding after
returns-in-None c = rw (le-ltb _ 1024 c.in-None.ensures)
