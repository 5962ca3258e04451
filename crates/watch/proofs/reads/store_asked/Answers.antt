-- `store_asked` meets its contract. The invariant: the first b blocks are done.
use Rattle.machine.specs.All.{arith, refl, ◌∙◌}
use Rattle.watch.proofs.Loops.{asked-none, asked-next, asked-all}
use Rattle.watch.proofs.reads.store_asked.Goals as goal

pub loop-b-init : goal.loop-b-init
loop-b-init c = (asked-none _ _, refl)

pub loop-b-preserved : goal.loop-b-preserved
loop-b-preserved c =
    (asked-next _ _ _ _ _ _ c.loop-b.invariant.0 c.asked-x.ensures c.store.ensures, omega arith)

pub returns : goal.returns
returns c = c.loop-b.invariant.0 ∙ asked-all _ _ _ _ (omega arith) (omega arith)
