-- The check of a caller's double, pure: multiplied, cut to a whole number, divided again and compared, it is taken exactly
-- where it is a whole number of parts in range.
use Rattle.std.proofs.Common.{◌≡◌, ℕ, ◌*◌, ◌/◌, ◌%◌, ◌^◌, ◌<◌, ◌≤◌, Bool, true, false, cond, ◌&&◌, T, eqb, leb, pos, sym, refl, ap, ◌∙◌, subst, le_trans, lt_of_le_of_lt, mul_assoc, mul-pos, one-mul, div-add-mod', mul-one, div-one, mul-div_cancel, arith, lit<, lit≤, le→leb, pow_pos, eqb-true, le-leb, leb-true}
use native.Mathlib.Nat.{mul-mod_left}
use Rattle.std.specs.Prelude.{Option, None as none, Some as some}
use lib.Ieee.{Float, nan, inf, fin, binary64, prec, up, down, mul, div, eq, of_int, in_float}
use lib.Ieee.Fits.{down_pos}
use Rattle.floats.specs.{max_time_parts, Is, parts_of, whole_part_lem}
use Rattle.floats.proofs as our
use our.Values.{rounds_rescaled, rounds_exact, mul_rounds, div_rounds}
use our.Whole.{both, whole_is, equal_is, is-equal, whole-number}

-- ---- Parts and value

pub none-some : {A : Type 0} {n : ℕ} → ◌≡◌ {A = Option ℕ} none (some n) → A
none-some e = let z : ◌≡◌ {A = ℕ} 0 1 = cc in absurd (omega arith)

some_same : {n m : ℕ} → ◌≡◌ {A = Option ℕ} (some n) (some m) → n ≡ m
some_same {n} {m} e = cc

module _ (k most : ℕ) (p : 0 < k) where
  counted : (y d n : ℕ) (t : Bool) → eqb (y * k % d) 0 && leb (y * k / d) most ≡ t →
      cond t (some (y * k / d)) none ≡ some n → (y * k ≡ n * d) × (n ≤ most)
  counted y d n false e h = none-some h
  counted y d n true e h =
      let g = both _ _ e in
      let rest : y * k % d ≡ 0 = eqb-true _ _ g.0 in
      let q : y * k / d ≡ n = some_same h in (
        sym (div-add-mod' (y * k) d) ∙ rw (rest, q) (omega arith),
        rw (← q) (leb-true _ _ g.1),
      )

  -- a double that is taken as n parts is n parts, of at most so many
  pub parts_is : (x : Float) (n : ℕ) → parts_of k most x ≡ some n → Is x n k × (n ≤ most)
  unfolding parts_of
  parts_is nan n e = none-some e
  parts_is (inf s) n e = none-some e
  parts_is (fin false m x) n e = counted (m * up x) (down x) n _ refl e
  parts_is (fin true m x) n e = go (eqb m 0) refl e
    where
      go : (t : Bool) → eqb m 0 ≡ t → cond t (some 0) none ≡ some n → ((m ≡ 0) × (n ≡ 0)) × (n ≤ most)
      go true f h = let z : 0 ≡ n = some_same h in ((eqb-true _ _ f, sym z), omega arith)
      go false f h = none-some h

  -- and every such double is taken
  pub is-parts : (x : Float) (n : ℕ) → n ≤ most → Is x n k → parts_of k most x ≡ some n
  unfolding parts_of
  is-parts nan n l h = absurd h
  is-parts (inf s) n l h = absurd h
  is-parts (fin false m x) n l h =
      let q : m * up x * k / down x ≡ n = ap (λ (z : ℕ). z / down x) h ∙ mul-div_cancel n (down_pos x) in
      let r : m * up x * k % down x ≡ 0 = ap (λ (z : ℕ). z % down x) h ∙ mul-mod_left n (down x) in
      rw (q, r, le-leb n most l)
  is-parts (fin true m x) n l h = rw (h.0, h.1)

-- ---- The check

-- v parts of 1 / 2 ^ k, as a double
pub part : (v k : ℕ) (scale : Float) → v < 2 ^ prec binary64 → k ≤ 16 → Is scale (2 ^ k) 1
    → Is (div binary64 (of_int binary64 (pos v)) scale) v (2 ^ k)
part v k scale few fine pow =
    rounds_exact _ v k few (omega arith)
    (rounds_rescaled _ (v * 1) (1 * 2 ^ k) v (2 ^ k) (mul-pos (pow_pos 0) (pow_pos k)) (pow_pos k) (rw (mul-one v, one-mul (2 ^ k)))
    (div_rounds (of_int binary64 (pos v)) scale v 1 (2 ^ k) 1 (pow_pos 0) (pow_pos 0) (pow_pos k) (whole-number v few) pow))

module _ (x scale : Float) (k most : ℕ) (small : most ≤ max_time_parts) (pow : Is scale (2 ^ k) 1) (fine : k ≤ 16) where
  digits : (n : ℕ) → n ≤ most → n < 2 ^ prec binary64
  digits n h = lt_of_le_of_lt {m = max_time_parts} (omega arith) (lit< tt)

  -- what is a whole number of parts is that number when multiplied
  multiplied : (n : ℕ) → n ≤ most → Is x n (2 ^ k) → whole_part_lem (mul binary64 x scale) ≡ n
  multiplied n h is =
      let r = mul_rounds x scale n (2 ^ k) (2 ^ k) 1 (pow_pos k) (pow_pos 0) is pow in
      let s = rounds_rescaled _ (n * 2 ^ k) (2 ^ k * 1) n 1 (mul-pos (pow_pos k) (pow_pos 0)) (pow_pos 0) (mul_assoc n (2 ^ k) 1) r in
      whole_is n 1 (pow_pos 0) (rw (div-one n) (lt_of_le_of_lt {m = max_time_parts} (omega arith) (lit< tt))) (mul binary64 x scale)
      (rounds_exact _ n 0 (digits n h) (lit≤ tt) s)
      ∙ div-one n

  -- and divided again it is that many parts
  divided : (n : ℕ) → n ≤ most → Is (div binary64 (of_int binary64 (pos n)) scale) n (2 ^ k)
  divided n h = part n k scale (digits n h) fine pow

  module _ (n : ℕ) (e : n ≡ whole_part_lem (mul binary64 x scale)) where
    same_count : (j : ℕ) → parts_of (2 ^ k) most x ≡ some j → (n ≡ j) × Is x j (2 ^ k) × (j ≤ most)
    same_count j h =
        let g = parts_is (2 ^ k) most (pow_pos k) x j h in
        (e ∙ multiplied j g.1 g.0, g.0, g.1)

    pub too_many : most < n → none ≡ parts_of (2 ^ k) most x
    too_many h = go (parts_of (2 ^ k) most x) refl
      where
        go : (o : Option ℕ) → parts_of (2 ^ k) most x ≡ o → none ≡ o
        go none f = refl
        go (some j) f = let g = same_count j f in absurd (omega arith)

    -- the check by multiplying, cutting and dividing again: the same double,
    pub taken : n ≤ most → eq (div binary64 (of_int binary64 (pos n)) scale) x ≡ true → some n ≡ parts_of (2 ^ k) most x
    taken h t = sym (is-parts (2 ^ k) most (pow_pos k) x n h (is-equal n (2 ^ k) (pow_pos k) _ x (divided n h) t))

    -- or another
    pub not_these : n ≤ most → eq (div binary64 (of_int binary64 (pos n)) scale) x ≡ false → none ≡ parts_of (2 ^ k) most x
    not_these h t = go (parts_of (2 ^ k) most x) refl
      where
        go : (o : Option ℕ) → parts_of (2 ^ k) most x ≡ o → none ≡ o
        go none f = refl
        go (some j) f =
            let g = same_count j f in
            let is : Is x n (2 ^ k) = subst (λ (z : ℕ). Is x z (2 ^ k)) (sym g.0) g.1 in
            let b : true ≡ false = sym (equal_is n (2 ^ k) (pow_pos k) _ x (divided n h) is) ∙ t in
            let z : ◌≡◌ {A = ℕ} 0 1 = ap (λ (y : Bool). cond y 0 1) b in
            absurd (omega arith)

-- a small number is a whole one of the format
pub in-float : (n : ℕ) → n ≤ max_time_parts → T (in_float binary64 (pos n))
unfolding in_float
in-float n h = le→leb n (2 ^ prec binary64) (le_trans h (lit≤ tt))
