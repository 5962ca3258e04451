-- `parameters_of` meets its contract: four reads.
use Rattle.values_queues_laws.specs.Comparison.{parameters_at}
use Rattle.values_queues.proofs.comparison.parameters_of.Goals as goal

pub returns : goal.returns
unfolding parameters_at
returns c =
    rw (c.read-p1.ensures, c.read-p2.ensures, c.read-p3.ensures, c.read-p4.ensures)
