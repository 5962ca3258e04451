-- `held` meets its contract: both sides, then the relation.
use Rattle.machine.specs.All.{◌∙◌}
use Rattle.values_queues_laws.specs.Waits.{held_at}
use Rattle.values_queues_laws.proofs.Sharing.{held-related}
use Rattle.values_queues.proofs.sides.held.Goals as goal

pub returns : goal.returns
unfolding held_at
returns c =
    held-related (c.holds.ensures ∙ c.of.ensures _ _) c.number.ensures c.worth_to-a.type_inv c.worth_to-a.ensures
    c.worth_to-b.type_inv c.worth_to-b.ensures
