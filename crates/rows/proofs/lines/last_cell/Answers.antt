-- `last_cell` meets its contract. The invariant: the rest of the walk from here is the whole walk.
use Rattle.machine.specs.All.{sym, ◌∙◌, arith}
use Rattle.rows_laws.proofs.Placing.WalkSteps.{last_cell-end, last_cell-stop, last_cell-next}
use Rattle.rows.proofs.lines.last_cell.Goals as goal

pub returns-in_default : goal.returns-in_default
returns-in_default c = sym (last_cell-stop _ _ _ _ _ c.in_default.ensures) ∙ c.loop.invariant

pub loop-preserved : goal.loop-preserved
loop-preserved c =
    rw (c.link-c.ensures.cell, c.found_at-found.ensures)
    (sym (last_cell-next _ _ _ _ _ _ _ (omega arith) c.in-Some.ensures.0 c.in-Some.ensures.1) ∙ c.loop.invariant)

pub returns : goal.returns
returns c = sym (last_cell-end _ _ _ _ _ (omega arith)) ∙ c.loop.invariant
