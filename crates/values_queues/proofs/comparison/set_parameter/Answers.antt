-- `set_parameter` meets its contract, by cases on whether there is such a parameter.
use Rattle.machine.specs.All.{lt-ltb, le-ltb}
use Rattle.values_queues_laws.specs.Comparison.{set_parameter}
use Rattle.values_queues.proofs.comparison.set_parameter.Goals as goal

pub returns-then-i-lt-PARAMETERS : goal.returns-then-i-lt-PARAMETERS
unfolding set_parameter
returns-then-i-lt-PARAMETERS c = rw (lt-ltb _ 4 c.if-i-lt-PARAMETERS.true) c.write.ensures

pub returns-else-i-lt-PARAMETERS : goal.returns-else-i-lt-PARAMETERS
unfolding set_parameter
returns-else-i-lt-PARAMETERS c = rw (le-ltb _ 4 c.if-i-lt-PARAMETERS.false)
