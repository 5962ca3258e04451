-- `groups_whole` meets its contract. The loop's invariant: the answer is that of the rows from b on, behind so many waits.
use Rattle.program.proofs.Question.{joined-all, joined_end, joined-bad, joined-next}
use Rattle.machine.specs.All.{arith, ◌∙◌}
use Rattle.program.proofs.groups_whole.Goals as goal

pub loop-b-init : goal.loop-b-init
loop-b-init c = (omega arith, joined-all _ _ 0)

pub returns-then-waits-back : goal.returns-then-waits-back
returns-then-waits-back c = joined-bad _ _ _ _ c.loop-b-test.true (omega arith) ∙ c.loop-b.invariant.1

pub loop-b-preserved : goal.loop-b-preserved
loop-b-preserved c = (
  omega arith,
  rw c.waits_after-waits.ensures.0 (joined-next _ _ _ _ c.loop-b-test.true (omega arith) ∙ c.loop-b.invariant.1),
)

pub returns : goal.returns
returns c = joined_end _ _ _ _ c.loop-b-test.false ∙ c.loop-b.invariant.1
