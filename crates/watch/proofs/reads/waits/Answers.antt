-- `waits` meets its contract. The invariant: the first b blocks are done.
use Rattle.machine.specs.All.{arith, refl, ◌∙◌}
use Rattle.watch.proofs.Loops.{waits-none, waits-next, waits-all}
use Rattle.watch.proofs.reads.waits.Goals as goal

pub loop-b-init : goal.loop-b-init
loop-b-init c = (waits-none _ _ _, refl)

pub loop-b-preserved : goal.loop-b-preserved
loop-b-preserved c = (waits-next _ _ _ _ _ _ c.loop-b.invariant.0 c.wait.ensures, omega arith)

pub returns : goal.returns
returns c = c.loop-b.invariant.0 ∙ waits-all _ _ _ _ _ (omega arith) (omega arith)
