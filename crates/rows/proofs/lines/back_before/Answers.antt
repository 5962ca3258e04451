-- `back_before` meets its contract, by cases on the last row.
use Rattle.machine.specs.All.{sym, ◌∙◌}
use Rattle.rows_laws.specs.All.{back_before}
use Rattle.rows.proofs.lines.back_before.Goals as goal

pub returns-then-last_meets : goal.returns-then-last_meets
unfolding back_before
returns-then-last_meets c = rw (sym c.last_meets.ensures ∙ c.if-last_meets.true)

pub returns : goal.returns
unfolding back_before
returns c = rw (sym c.last_meets.ensures ∙ c.if-last_meets.false, ← c.head.ensures.cell) c.last_cell.ensures
