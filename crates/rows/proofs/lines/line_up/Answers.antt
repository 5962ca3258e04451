-- `line_up` meets its contract, by the edition.
use Rattle.machine.specs.All.{eq-eqb, ne_eqb}
use Rattle.rows_laws.specs.All.{line_up}
use Rattle.rows.proofs.lines.line_up.Goals as goal

pub returns-then-edition-eq1 : goal.returns-then-edition-eq1
unfolding line_up
returns-then-edition-eq1 c =
    rw (eq-eqb _ 1 c.if-edition-eq1.true) c.put.ensures

pub returns : goal.returns
unfolding line_up
returns c =
    rw (ne_eqb _ 1 c.if-edition-eq1.false, ← c.second_spot-c.ensures) c.insert_at.ensures
