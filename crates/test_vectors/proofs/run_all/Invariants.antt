-- The measure is what is left of the cases.
use Rattle.std.proofs.Common.{length, ◌-◌}
use Rattle.test_vectors.proofs.run_all.Given as goal

abbrev pub decreases-loop-at : goal.decreases-loop-at
decreases-loop-at g l = length l.cases - l.at
