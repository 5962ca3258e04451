-- `tapes::measure` meets its contract: a walk that counts.
use Rattle.machine.specs.All.{arith}
use Rattle.tapes_laws.proofs.Walks.{measures}
use Rattle.tapes.proofs.write.measure.Goals as goal

pub returns : goal.returns
returns c ls held = let end = measures _ _ _ 0 _ (omega arith) (c.walk.ensures ls held) in omega arith
