-- `copying::copy` meets its contract. The invariant: the bytes so far stand there.
use Rattle.machine.specs.All.{refl, ◌∙◌, arith, length-set}
use Rattle.join.proofs.Copies.{copy_step, copy_done}
use Rattle.join.proofs.copying.copy.Goals as goal

pub loop-i-init : goal.loop-i-init
loop-i-init c = (refl, refl)

pub loop-i-preserved : goal.loop-i-preserved
loop-i-preserved c = (
  length-set _ _ _ ∙ c.loop-i.invariant.0,
  copy_step _ _ _ _ (omega arith) c.loop-i.invariant.1,
)

pub returns : goal.returns
returns c = copy_done _ _ _ _ (omega arith) c.requires c.loop-i.invariant.1
