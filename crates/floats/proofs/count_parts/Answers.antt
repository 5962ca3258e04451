-- `floats::count_parts` meets its contract: too many parts, the double made of them again, or another one.
use Rattle.std.proofs.Common.{arith}
use Rattle.floats.proofs.Checked.{too_many, taken, not_these, in-float}
use Rattle.floats.proofs.count_parts.Goals as goal

pub returns-then-most-n : goal.returns-then-most-n
returns-then-most-n c k fine pow =
    too_many _ _ k _ (omega arith) pow fine _ c.whole_part-n.ensures c.if-most-n.true

pub int_to_float-n : goal.int_to_float-n
int_to_float-n c = in-float _ (omega arith)

pub returns-then-n-scale : goal.returns-then-n-scale
returns-then-n-scale c k fine pow =
    taken _ _ k _ (omega arith) pow fine _ c.whole_part-n.ensures c.if-most-n.false c.if-n-scale.true

pub returns : goal.returns
returns c k fine pow =
    not_these _ _ k _ (omega arith) pow fine _ c.whole_part-n.ensures c.if-most-n.false c.if-n-scale.false
