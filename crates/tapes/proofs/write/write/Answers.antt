-- `tapes::write` meets its contract: a walk that writes.
use Rattle.machine.specs.All.{arith}
use Rattle.tapes_laws.proofs.Walks.{writes}
use Rattle.tapes.proofs.write.write.Goals as goal

pub returns : goal.returns
returns c ls held room = writes _ _ _ 0 _ (omega arith) (c.walk.ensures ls held)
