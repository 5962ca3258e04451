-- "Relations: 1 =, 2 ≠, 3 <, 4 ≤, 5 >, 6 ≥, signed": which numbers each holds between. By their numbers: Evaluation, `related_by`.
use Rattle.machine.specs.All.{Bool, not, eq_z}
use Rattle.std.specs.Prelude.{ℤ, int_le, int_lt}
use Rattle.evaluation.specs.declared.relations.Relation.{Relation}
use Rattle.evaluation.specs.declared.relations.Relation.TheVariants.{Equal, Unequal, Less, AtMost, Greater, AtLeast}

abbrev pub holds_of : Relation → ℤ → ℤ → Bool
holds_of Equal a b = eq_z a b
holds_of Unequal a b = not (eq_z a b)
holds_of Less a b = int_lt a b
holds_of AtMost a b = int_le a b
holds_of Greater a b = int_lt b a
holds_of AtLeast a b = int_le b a
