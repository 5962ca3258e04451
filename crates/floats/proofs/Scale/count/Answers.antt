-- `floats::Scale::count` meets its contract: each scale is a power of two.
use Rattle.std.proofs.Common.{refl, lit≤}
use lib.Ieee.{of_bits}
use Rattle.floats.proofs.Scale.count.Goals as goal

pub returns-in-Time : goal.returns-in-Time
unfolding of_bits
returns-in-Time c = rw c.in-Time.is (c.count_parts.ensures 6 (lit≤ tt) refl)

pub returns-in-Draw : goal.returns-in-Draw
unfolding of_bits
returns-in-Draw c = rw c.in-Draw.is (c.count_parts-in-Draw.ensures 16 (lit≤ tt) refl)
