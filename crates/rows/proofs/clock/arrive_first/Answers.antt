-- `arrive_first` meets its contract, by cases on whether the FEL has a first.
use Rattle.machine.specs.All.{lt-ltb, le-ltb}
use Rattle.rows_laws.specs.All.{arrive_first}
use Rattle.rows.proofs.clock.arrive_first.Goals as goal

pub returns-in-Some : goal.returns-in-Some
unfolding arrive_first
returns-in-Some c = rw (c.in-Some.ensures.0, lt-ltb _ 1024 c.in-Some.ensures.1) c.arrive_row.ensures

pub returns-in_default : goal.returns-in_default
unfolding arrive_first
returns-in_default c = rw (le-ltb _ 1024 c.in_default.ensures)
