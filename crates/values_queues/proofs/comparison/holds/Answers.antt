-- `holds` meets its contract: the comparison with the parameters of the row.
use Rattle.machine.specs.All.{◌∙◌}
use Rattle.values_queues_laws.specs.Comparison.{holds_at}
use Rattle.values_queues.proofs.comparison.holds.Goals as goal

pub returns : goal.returns
unfolding holds_at
returns c = c.compare_at.ensures ∙ rw c.parameters_of-parameters.ensures
