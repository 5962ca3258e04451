-- `assign` meets its contract: the parameter is written, then the transaction goes on.
use Rattle.machine.specs.All.{◌∙◌}
use Rattle.values_queues_laws.specs.Comparison.{assign_rows}
use Rattle.values_queues.proofs.comparison.assign.Goals as goal

pub returns : goal.returns
unfolding assign_rows
returns c =
    c.go_on.ensures ∙ rw (c.set_parameter.ensures, c.number.ensures, c.worth-n.ensures, c.scalars.ensures.same, c.row-k.ensures)
