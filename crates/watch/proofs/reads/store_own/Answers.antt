-- `store_own` meets its contract. The invariant: the first k values are done.
use Rattle.machine.specs.All.{arith, refl, ◌∙◌}
use Rattle.watch.proofs.Loops.{own-none, own-next, own-all}
use Rattle.watch.proofs.reads.store_own.Goals as goal

pub loop-k-init : goal.loop-k-init
loop-k-init c = (own-none _ _, refl)

pub loop-k-preserved : goal.loop-k-preserved
loop-k-preserved c =
    (own-next _ _ _ _ _ _ c.loop-k.invariant.0 c.names_own-x.ensures c.store.ensures, omega arith)

pub returns : goal.returns
returns c = c.loop-k.invariant.0 ∙ own-all _ _ _ _ (omega arith) (omega arith)
