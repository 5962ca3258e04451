-- `floats::whole_part` meets its contract: the two tests are those of the definition, each number by its bit pattern.
use Rattle.std.proofs.Common.{◌∙◌}
use lib.Ieee.{of_bits, neg}
use Rattle.floats.proofs.Whole.{whole-inside, whole_above, whole_below}
use Rattle.floats.proofs.whole_part.Goals as goal

pub returns-then-x-2 : goal.returns-then-x-2
unfolding of_bits neg
returns-then-x-2 c =
    c.truncating_f64_to_u64.ensures ∙ whole-inside _ c.if-x.true c.if-x-2.true

pub returns-then-x : goal.returns-then-x
unfolding of_bits neg
returns-then-x c =
    whole_above _ c.if-x.true c.if-x-2.false

pub returns : goal.returns
unfolding of_bits neg
returns c =
    whole_below _ c.if-x.false

pub truncating_f64_to_u64-requires : goal.truncating_f64_to_u64-requires
unfolding of_bits neg
truncating_f64_to_u64-requires c = record { lower_bound = rw c.if-x.true tt; upper_bound = rw c.if-x-2.true tt }
