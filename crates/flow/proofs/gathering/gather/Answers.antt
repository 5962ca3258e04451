-- `gather` meets its contract, by cases on the row of the cell.
use Rattle.machine.specs.All.{lt-ltb, le-ltb}
use Rattle.flow_laws.specs.Gathering.{gather_rows}
use Rattle.flow.proofs.gathering.gather.Goals as goal

pub returns-in-Some : goal.returns-in-Some
unfolding gather_rows
returns-in-Some c = rw (c.in-Some.ensures.0, lt-ltb _ 1024 c.in-Some.ensures.1) c.later.ensures

pub returns-in-None : goal.returns-in-None
unfolding gather_rows
returns-in-None c = rw (le-ltb _ 1024 c.in-None.ensures) c.gather_on.ensures
