-- `floats::fraction` meets its contract: a quotient of few digits.
use Rattle.std.proofs.Common.{refl, arith, lit≤}
use lib.Ieee.{of_bits}
use Rattle.floats.proofs.Checked.{part}
use Rattle.floats.proofs.fraction.Goals as goal

pub returns : goal.returns
unfolding of_bits
returns c =
    part _ 16 _ (omega arith) (lit≤ tt) refl
