-- `shared` meets its contract: what is known stays, or is found anew.
use Rattle.values_queues_laws.proofs.Sharing.{for-all-same}
use Rattle.values_queues.proofs.sides.shared.Goals as goal

pub returns-then-seen-at : goal.returns-then-seen-at
returns-then-seen-at c = for-all-same c.if-seen-at.true
