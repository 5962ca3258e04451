-- `Record::in_ranges` meets its contract: the tests in their order are those of the definition.
use Rattle.machine.specs.All.{arith, in_ranges}
use Rattle.std.proofs.lemmas.Bool.Decides.{nat_tests}
use Rattle.trace.proofs.Record.in_ranges.Goals as goal

pub returns-then-self-le-MAX_BLOCK : goal.returns-then-self-le-MAX_BLOCK
unfolding in_ranges
returns-then-self-le-MAX_BLOCK c = grind (arith, nat_tests)

pub returns-else-self-le-MAX_BLOCK : goal.returns-else-self-le-MAX_BLOCK
unfolding in_ranges
returns-else-self-le-MAX_BLOCK c = grind (arith, nat_tests)
