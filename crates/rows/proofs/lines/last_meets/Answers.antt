-- `last_meets` meets its contract, by cases on the cell and its row.
use Rattle.machine.specs.All.{lt-ltb, le-ltb}
use Rattle.rows_laws.specs.All.{links, last_meets}
use Rattle.rows.proofs.lines.last_meets.Goals as goal

pub returns-then-t-lt-LINKS : goal.returns-then-t-lt-LINKS
unfolding last_meets
returns-then-t-lt-LINKS c = rw (lt-ltb _ links c.if-t-lt-LINKS.true)

pub returns-in-Some : goal.returns-in-Some
unfolding last_meets
returns-in-Some c = rw (le-ltb _ links c.if-t-lt-LINKS.false, c.in-Some.ensures.0, lt-ltb _ 1024 c.in-Some.ensures.1) c.at_least.ensures

pub returns-in-None : goal.returns-in-None
unfolding last_meets
returns-in-None c = rw (le-ltb _ links c.if-t-lt-LINKS.false, le-ltb _ 1024 c.in-None.ensures)
