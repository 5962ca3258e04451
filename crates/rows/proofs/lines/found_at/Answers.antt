-- `found_at` meets its contract, by cases on the row's priority.
use Rattle.machine.specs.All.{sym, ◌∙◌}
use Rattle.rows_laws.specs.All.{found_at}
use Rattle.rows.proofs.lines.found_at.Goals as goal

pub returns-then-at_least : goal.returns-then-at_least
unfolding found_at
returns-then-at_least c = rw (sym c.at_least.ensures ∙ c.if-at_least.true) c.link.ensures.cell

pub returns : goal.returns
unfolding found_at
returns c = rw (sym c.at_least.ensures ∙ c.if-at_least.false)
