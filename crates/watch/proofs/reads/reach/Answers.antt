-- `reach` meets its contract. The invariant: the rest from here is the whole.
use Rattle.machine.specs.All.{arith, sym, ◌∙◌}
use Rattle.watch.proofs.Loops.{reach-next, reach-end}
use Rattle.watch.proofs.reads.reach.Goals as goal

pub loop-k-preserved : goal.loop-k-preserved
loop-k-preserved c =
    (sym (reach-next _ _ _ _ _ (omega arith) (omega arith) c.reach_value.ensures) ∙ c.loop-k.invariant.0, omega arith)

pub returns : goal.returns
returns c = sym (reach-end _ _ _ (omega arith)) ∙ c.loop-k.invariant.0
