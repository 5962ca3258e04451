-- `second_spot` meets its contract, by cases on the returning mark.
use Rattle.machine.specs.All.{eq-eqb, ne_eqb}
use Rattle.rows_laws.specs.All.{second_spot}
use Rattle.rows.proofs.lines.second_spot.Goals as goal

pub returns-then-read-eq1 : goal.returns-then-read-eq1
unfolding second_spot
returns-then-read-eq1 c = rw (← c.read.ensures, eq-eqb _ 1 c.if-read-eq1.true) c.head.ensures.cell

pub returns : goal.returns
unfolding second_spot
returns c = rw (← c.read.ensures, ne_eqb _ 1 c.if-read-eq1.false) c.back_spot.ensures
