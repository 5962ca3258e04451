-- What a double is worth, as a fraction of whole numbers.
use Rattle.std.specs.Prelude.{◌≡◌, ℕ, ◌*◌, ◌/◌, ◌%◌, true, false, cond, ◌&&◌, pos, ◌==◌, nat_le, Float, Option, None as none, Some as some}
use Rattle.std.specs.Float.{nan, inf, fin}
use Rattle.std.specs.Float.Ieee.{up, down, lt, to_unsigned}

-- x is the number a / c, which is not negative; minus zero counts as 0
abbrev pub Is : Float → ℕ → ℕ → Type 0
Is nan a c = ⊥
Is (inf s) a c = ⊥
Is (fin false m e) a c = m * up e * c ≡ a * down e
Is (fin true m e) a c = (m ≡ 0) × (a ≡ 0)

-- x counted in parts of 1 / k, where it is a whole number of them from 0 to most; minus zero counts as 0
unfoldable pub parts_of : ℕ → ℕ → Float → Option ℕ
parts_of k most nan = none
parts_of k most (inf s) = none
parts_of k most (fin false m e) =
    cond (m * up e * k % down e == 0 && nat_le (m * up e * k / down e) most) (some (m * up e * k / down e)) none
parts_of k most (fin true m e) = cond (m == 0) (some 0) none

-- the whole part of a number above -1 and below 2 ^ 64, else 2 ^ 64 - 1
unfoldable pub whole_part_lem : Float → ℕ
whole_part_lem x =
    cond (lt (fin true 1 (pos 0)) x && lt x (fin false 1 (pos 64))) (to_unsigned 64 x) 18446744073709551615
