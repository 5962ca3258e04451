-- The sum stays below the prime.
use Rattle.std.proofs.Common.{◌<◌}
use Rattle.test_vectors.proofs.checksum.Given as goal

abbrev pub invariant-loop-b : goal.invariant-loop-b
invariant-loop-b l = l.sum < 4294967291
