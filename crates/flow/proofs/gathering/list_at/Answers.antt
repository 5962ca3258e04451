-- `list_at` meets its contract: the block less one, behind the lists before it.
use Rattle.flow_laws.specs.Gathering.{list_at_lem}
use Rattle.flow.proofs.gathering.list_at.Goals as goal

pub returns : goal.returns
unfolding list_at_lem
returns c = rw (← c.read.ensures, ← c.saturating_sub.ensures) c.gatherers.ensures
