-- `relations::Relation::holds` meets its contract: equality goes by the bits.
use Rattle.evaluation.proofs.Signs.{bits-equal}
use Rattle.evaluation.proofs.relations.Relation.holds.Goals as goal

pub returns-in-Equal : goal.returns-in-Equal
returns-in-Equal c = rw c.in-Equal.is (bits-equal _ _ c.ranges.a c.ranges.b)

pub returns-in-Unequal : goal.returns-in-Unequal
returns-in-Unequal c = rw c.in-Unequal.is (cc (bits-equal _ _ c.ranges.a c.ranges.b))
