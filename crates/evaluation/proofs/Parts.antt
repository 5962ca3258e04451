-- What the functions read: a number of a part of the tables or the tally, std's conversion to 32 bits with a sign, and tags.
use Rattle.machine.specs.All.{ℕ, ◌+◌, ◌≤◌, ◌<◌, ◌∙◌, arith, List, ◌≡◌, refl, ltb, ltb-true, ltb-false, lt-ltb, take, drop, get_or, get_or-eq_default, Bool, true, false, cond}
use Rattle.std.proofs.Common.{ℤ, pos, Result, Ok, Err, SFits, w32}
use Rattle.std.proofs.lemmas.List.{get_or-take, get_or-drop, length-take}
use Rattle.std.specs.Result.{OkIff, result_unwrap_or}
use Rattle.layout.specs.Tags.{tag_number}
use Rattle.layout.specs.declared.tag.Tag.{Tag}
use Rattle.layout.specs.declared.tag.Tag.TheVariants.{Constant, MinusConstant, Parameter, Clock, Entries, Content, UnitsInUse, UnitsFree, FacilityInUse, Value, Comparison, Bracket}
use Rattle.evaluation.specs.{within, small}

-- number n of the part of `size` that begins at `begin`
pub part-at : (l : List ℕ) (begin size n : ℕ) → get_or (take size (drop begin l)) n 0 ≡ within l begin size n
unfolding within
part-at l begin size n = go (ltb n size) refl
  where
    go : (t : Bool) → ltb n size ≡ t → get_or (take size (drop begin l)) n 0 ≡ cond t (get_or l (begin + n) 0) 0
    go true e = get_or-take size (drop begin l) n 0 (ltb-true n size e) ∙ get_or-drop begin l n 0
    go false e = get_or-eq_default (take size (drop begin l)) 0 (let h = ltb-false n size e in omega (arith, length-take {A = ℕ}))

-- what `try_from` and `unwrap_or` give
pub small-from : {E : Type 0} (n : ℕ) (r : Result ℤ E) → OkIff r (SFits w32 (pos n)) (pos n) → result_unwrap_or r (pos 0) ≡ small n
unfolding small
small-from n (Ok x) h = let l : n < 2147483648 = h.0.sfits in rw (lt-ltb n 2147483648 l) h.1
small-from n (Err e) h = go (ltb n 2147483648) refl
  where
    go : (t : Bool) → ltb n 2147483648 ≡ t → pos 0 ≡ cond t (pos n) (pos 0)
    go true e = absurd (h (record { sfits = ltb-true n 2147483648 e }))
    go false e = refl

-- a tag that no arm before the last names
pub from-eight : (t : Tag) → (t ≡ Constant → ⊥) → (t ≡ MinusConstant → ⊥) → (t ≡ Parameter → ⊥) → (t ≡ Clock → ⊥) → (t ≡ Entries → ⊥)
    → (t ≡ Content → ⊥) → (t ≡ UnitsInUse → ⊥) → (t ≡ UnitsFree → ⊥) → 8 ≤ tag_number t
from-eight Constant a b c d e f g h = absurd (a refl)
from-eight MinusConstant a b c d e f g h = absurd (b refl)
from-eight Parameter a b c d e f g h = absurd (c refl)
from-eight Clock a b c d e f g h = absurd (d refl)
from-eight Entries a b c d e f g h = absurd (e refl)
from-eight Content a b c d e f g h = absurd (f refl)
from-eight UnitsInUse a b c d e f g h = absurd (g refl)
from-eight UnitsFree a b c d e f g h = absurd (h refl)
from-eight FacilityInUse a b c d e f g h = omega arith
from-eight Value a b c d e f g h = omega arith
from-eight Comparison a b c d e f g h = omega arith
from-eight Bracket a b c d e f g h = omega arith
