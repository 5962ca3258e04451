-- What is left is no longer than the cases. It is the measure too.
use Rattle.std.proofs.Common.{length, ◌≤◌}
use Rattle.test_refusals.proofs.show_all.Given as goal

abbrev pub invariant-loop-end : goal.invariant-loop-end
invariant-loop-end g l = length l.left ≤ length l.cases

abbrev pub decreases-loop-end : goal.decreases-loop-end
decreases-loop-end g l = length l.left
