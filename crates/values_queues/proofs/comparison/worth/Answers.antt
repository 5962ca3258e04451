-- `worth` meets its contract: the bits of what the term is worth.
use Rattle.machine.specs.All.{◌∙◌}
use Rattle.values_queues_laws.specs.Comparison.{worth_at}
use Rattle.values_queues_laws.proofs.Sharing.{bits-of}
use Rattle.values_queues.proofs.comparison.worth.Goals as goal

pub returns : goal.returns
unfolding worth_at
returns c =
    bits-of c.term_at.result c.term_at.type_inv c.cast_unsigned.ensures ∙ rw (c.term_at.ensures, c.parameters_of-parameters.ensures)
