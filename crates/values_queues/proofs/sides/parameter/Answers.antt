-- `parameter` meets its contract, by cases on whether there is one.
use Rattle.machine.specs.All.{◌∙◌}
use Rattle.values_queues_laws.proofs.Sharing.{parameter-past, parameter-read}
use Rattle.values_queues.proofs.sides.parameter.Goals as goal

pub returns-then-i-ge-PARAMETERS : goal.returns-then-i-ge-PARAMETERS
returns-then-i-ge-PARAMETERS c = parameter-past _ _ _ c.if-i-ge-PARAMETERS.true

pub returns : goal.returns
returns c = c.read.ensures ∙ parameter-read _ _ _ c.if-i-ge-PARAMETERS.false
