-- `targets_move` meets its contract. The loop's invariant: the answer is that of the rows from b on.
use Rattle.program.proofs.Question.{targets-all, targets-end, targets-bad, targets_next}
use Rattle.machine.specs.All.{◌∙◌}
use Rattle.program.proofs.targets_move.Goals as goal

pub loop-b-init : goal.loop-b-init
loop-b-init c = targets-all _ _ 0

pub returns-then-misnames : goal.returns-then-misnames
returns-then-misnames c =
    targets-bad _ _ _ c.loop-b-test.true (cc (c.misnames.ensures, c.if-misnames.true)) ∙ c.loop-b.invariant

pub loop-b-preserved : goal.loop-b-preserved
loop-b-preserved c =
    targets_next _ _ _ c.loop-b-test.true (cc (c.misnames.ensures, c.if-misnames.false)) ∙ c.loop-b.invariant

pub returns : goal.returns
returns c = targets-end _ _ _ c.loop-b-test.false ∙ c.loop-b.invariant
