-- `well_placed` meets its contract. The loop's invariant: the answer is that of the rows from b on.
use Rattle.program.proofs.Question.{placed-all, placed_end, placed-bad, placed-next}
use Rattle.machine.specs.All.{◌∙◌}
use Rattle.program.proofs.well_placed.Goals as goal

pub loop-b-init : goal.loop-b-init
loop-b-init c = placed-all _ _ 0

pub returns-then-misplaced : goal.returns-then-misplaced
returns-then-misplaced c =
    placed-bad _ _ _ _ c.loop-b-test.true (cc (c.misplaced.ensures, c.if-misplaced.true)) ∙ c.loop-b.invariant

pub loop-b-preserved : goal.loop-b-preserved
loop-b-preserved c =
    rw c.leaves-left.ensures
    (placed-next _ _ _ _ c.loop-b-test.true (cc (c.misplaced.ensures, c.if-misplaced.false)) ∙ c.loop-b.invariant)

pub returns : goal.returns
returns c = placed_end _ _ _ _ c.loop-b-test.false ∙ c.loop-b.invariant
