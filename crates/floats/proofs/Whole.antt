-- Whole parts, equality and small whole numbers of doubles, pure.
use Rattle.std.proofs.Common.{◌≡◌, ℕ, ◌+◌, ◌*◌, ◌/◌, ◌^◌, ◌<◌, ◌≤◌, Bool, true, false, ◌&&◌, ltb, ℤ, pos, sym, refl, ap, ◌∙◌, subst, mul-le-mul_right, div-lt_iff_lt-mul, lt_of_mul-lt-mul_right, mul-lt-mul_of_pos_right, mul-pos, zero-add, zero-mul, mul_right_comm, le_of_mul-le-mul_right, arith, lit≤, ltb-false, ltb-true, le-ltb, lt-ltb, eq-eqb, eqb-true}
use native.Mathlib.Nat.{zero-div, min-eq_left, eq_of_mul-eq-mul_right}
use lib.Ieee.{Float, nan, inf, fin, binary64, prec, up, down, below, lt, eq, to_unsigned, of_int}
use lib.Ieee.Fits.{up_pos, down_pos}
use lib.Ieee.Nearest.{div_same}
use Rattle.floats.specs.{Is, whole_part_lem}
use Rattle.floats.proofs.Values.{rounds_exact, no_true, zero_left, size_of, first, second}

-- ---- Whole part

module _ (a c : ℕ) (p : 0 < c) (small : a / c < 18446744073709551616) where
  above : (d b : ℕ) → 0 < d → ltb 0 (1 * 1 * d + b) ≡ true
  above d b q = lt-ltb 0 (1 * 1 * d + b) (omega arith)

  under : (m d : ℕ) → 0 < d → m / d ≡ a / c → ltb (m * 1) (1 * 18446744073709551616 * d) ≡ true
  under m d q e =
      let h : m < 18446744073709551616 * d = (div-lt_iff_lt-mul q).0 (subst (λ (z : ℕ). z < 18446744073709551616) (sym e) small) in
      lt-ltb (m * 1) (1 * 18446744073709551616 * d) (omega arith)

  pub whole_is : (x : Float) → Is x a c → whole_part_lem x ≡ a / c
  unfolding whole_part_lem lt to_unsigned
  whole_is nan h = absurd h
  whole_is (inf s) h = absurd h
  whole_is (fin false m e) h =
      let same : m * up e / down e ≡ a / c = div_same (m * up e) (down e) a c (down_pos e) p h in
      rw (above (down e) (m * up e * 1) (down_pos e), under (m * up e) (down e) (down_pos e) same, same)
      (min-eq_left (omega arith))
  whole_is (fin true m e) h =
      let none : m * up e * 1 ≡ 0 = rw (h.0, zero-mul (up e)) in
      rw (
        lt-ltb (m * up e * 1) (1 * 1 * down e) (omega (arith, down_pos e)),
        lt-ltb 0 (m * up e * 1 + 1 * 18446744073709551616 * down e) (omega (arith, down_pos e)),
        h.1,
        zero-div c,
      )

-- the three ways of the code
abbrev minus_one : Float
minus_one = fin true 1 (pos 0)

abbrev two64 : Float
two64 = fin false 1 (pos 64)

module _ (x : Float) where
  -- the cast is the whole part below 2^64,
  pub whole-inside : lt minus_one x ≡ true → lt x two64 ≡ true → to_unsigned 64 x ≡ whole_part_lem x
  unfolding whole_part_lem
  whole-inside e f = rw (e, f)

  -- and the largest number from there on
  pub whole_above : lt minus_one x ≡ true → lt x two64 ≡ false → 18446744073709551615 ≡ whole_part_lem x
  unfolding whole_part_lem
  whole_above e f = rw (e, f)

  pub whole_below : lt minus_one x ≡ false → 18446744073709551615 ≡ whole_part_lem x
  unfolding whole_part_lem
  whole_below e = rw e

-- ---- Equality

pub both : (s t : Bool) → s && t ≡ true → (s ≡ true) × (t ≡ true)
both true t e = (refl, e)
both false t e = no_true (sym e)

-- two sizes over their own denominators
module _ (x u y w a c : ℕ) (p : 0 < c) (q : 0 < u) where
  same_size : x * c ≡ a * u → y * c ≡ a * w → x * w ≡ y * u
  same_size e f =
      eq_of_mul-eq-mul_right c p (x * w) (y * u)
      (mul_right_comm x w c ∙ ap (λ (z : ℕ). z * w) e ∙ mul_right_comm a u w ∙ ap (λ (z : ℕ). z * u) (sym f) ∙ mul_right_comm y c u)

  size-over : x * c ≡ a * u → x * w ≡ y * u → y * c ≡ a * w
  size-over e f =
      eq_of_mul-eq-mul_right u q (y * c) (a * w)
      (mul_right_comm y c u ∙ ap (λ (z : ℕ). z * c) (sym f) ∙ mul_right_comm x w c ∙ ap (λ (z : ℕ). z * w) e ∙ mul_right_comm a u w)

no_size : (m : ℕ) (e : ℤ) → m * up e ≡ 0 → m ≡ 0
no_size m e = zero_left m (up e) (up_pos e)

module _ (a c : ℕ) (p : 0 < c) where
  pub equal_is : (y x : Float) → Is y a c → Is x a c → eq y x ≡ true
  unfolding eq
  equal_is nan x h k = absurd h
  equal_is (inf s) x h k = absurd h
  equal_is (fin s m e) nan h k = absurd k
  equal_is (fin s m e) (inf t) h k = absurd k
  equal_is (fin false m e) (fin false n d) h k =
      rw (eq-eqb _ _ (same_size (m * up e) (down e) (n * up d) (down d) a c p (down_pos e) h k))
  equal_is (fin false m e) (fin true n d) h k =
      let m0 : m * up e ≡ 0 = zero_left (m * up e) c p (h ∙ ap (λ (z : ℕ). z * down e) k.1 ∙ zero-mul (down e)) in
      let A0 : m * up e * down d ≡ 0 = ap (λ (z : ℕ). z * down d) m0 ∙ zero-mul (down d) in
      let B0 : n * up d * down e ≡ 0 = rw (k.0, zero-mul (up d), zero-mul (down e)) in
      rw (A0, B0)
  equal_is (fin true m e) (fin false n d) h k =
      let n0 : n * up d ≡ 0 = zero_left (n * up d) c p (k ∙ ap (λ (z : ℕ). z * down d) h.1 ∙ zero-mul (down d)) in
      let B0 : n * up d * down e ≡ 0 = ap (λ (z : ℕ). z * down e) n0 ∙ zero-mul (down e) in
      let A0 : m * up e * down d ≡ 0 = rw (h.0, zero-mul (up e), zero-mul (down d)) in
      rw (A0, B0)
  equal_is (fin true m e) (fin true n d) h k =
      let A0 : m * up e * down d ≡ 0 = rw (h.0, zero-mul (up e), zero-mul (down d)) in
      let B0 : n * up d * down e ≡ 0 = rw (k.0, zero-mul (up d), zero-mul (down e)) in
      rw (A0, B0)

  pub is-equal : (y x : Float) → Is y a c → eq y x ≡ true → Is x a c
  unfolding eq
  is-equal nan x h k = absurd h
  is-equal (inf s) x h k = absurd h
  is-equal (fin s m e) nan h k = no_true (sym k)
  is-equal (fin s m e) (inf t) h k = no_true (sym k)
  is-equal (fin false m e) (fin false n d) h k =
      let g = both _ _ k in
      size-over (m * up e) (down e) (n * up d) (down d) a c p (down_pos e) h (eqb-true _ _ g.0)
  is-equal (fin false m e) (fin true n d) h k =
      let g = both _ _ k in
      let same : m * up e * down d ≡ n * up d * down e = eqb-true _ _ g.0 in
      let A0 : m * up e * down d ≡ 0 = eqb-true _ _ g.1 in
      let m0 : m * up e ≡ 0 = zero_left (m * up e) (down d) (down_pos d) A0 in (
        no_size n d (zero_left (n * up d) (down e) (down_pos e) (sym same ∙ A0)),
        zero_left a (down e) (down_pos e) (sym h ∙ ap (λ (z : ℕ). z * c) m0 ∙ zero-mul c),
      )
  is-equal (fin true m e) (fin false n d) h k =
      let g = both _ _ k in
      let same : m * up e * down d ≡ n * up d * down e = eqb-true _ _ g.0 in
      let A0 : m * up e * down d ≡ 0 = rw (h.0, zero-mul (up e), zero-mul (down d)) in
      let n0 : n * up d ≡ 0 = zero_left (n * up d) (down e) (down_pos e) (sym same ∙ A0) in
      rw (h.1, n0, zero-mul c, zero-mul (down d))
  is-equal (fin true m e) (fin true n d) h k =
      let g = both _ _ k in
      let same : m * up e * down d ≡ n * up d * down e = eqb-true _ _ g.0 in
      let A0 : m * up e * down d ≡ 0 = rw (h.0, zero-mul (up e), zero-mul (down d)) in
      (no_size n d (zero_left (n * up d) (down e) (down_pos e) (sym same ∙ A0)), h.1)

-- ---- Order

-- of sizes over one denominator D
module _ (A B D a b c : ℕ) (p : 0 < c) (q : 0 < D) (e : A * c ≡ a * D) (f : B * c ≡ b * D) where
  same-order : ltb A B ≡ ltb a b
  same-order = go (ltb a b) refl
    where
      go : (t : Bool) → ltb a b ≡ t → ltb A B ≡ t
      go true g =
          let h : a * D < b * D = mul-lt-mul_of_pos_right (ltb-true a b g) q in
          lt-ltb A B (lt_of_mul-lt-mul_right c (omega arith))
      go false g =
          let h : b * D ≤ a * D = mul-le-mul_right D (ltb-false a b g) in
          le-ltb A B (le_of_mul-le-mul_right {k = c} (omega arith) p)

-- signs of zeros do not matter
below-is : (s t : Bool) (A B : ℕ) → (s ≡ true → A ≡ 0) → (t ≡ true → B ≡ 0) → below s A t B ≡ ltb A B
below-is false false A B h k = refl
below-is false true A B h k = sym (rw (k refl) (le-ltb A 0 (omega arith)))
below-is true false A B h k = rw (h refl, zero-add B)
below-is true true A B h k = rw (h refl, k refl)

no_number : (s : Bool) (m : ℕ) (e d : ℤ) (a c : ℕ) → Is (fin s m e) a c → s ≡ true → m * up e * down d ≡ 0
no_number false m e d a c h t = no_true (sym t)
no_number true m e d a c h t = rw (h.0, zero-mul (up e), zero-mul (down d))

-- doubles compare as their fractions
pub order_is : (x y : Float) (a b c : ℕ) → 0 < c → Is x a c → Is y b c → lt x y ≡ ltb a b
unfolding lt
order_is nan y a b c p h k = absurd h
order_is (inf s) y a b c p h k = absurd h
order_is (fin s m e) nan a b c p h k = absurd k
order_is (fin s m e) (inf t) a b c p h k = absurd k
order_is (fin s m e) (fin t n d) a b c p h k =
    below-is s t (m * up e * down d) (n * up d * down e) (no_number s m e d a c h) (no_number t n d e b c k)
    ∙ same-order (m * up e * down d) (n * up d * down e) (down e * down d) a b c p (mul-pos (down_pos e) (down_pos d))
    (first c p m n a b e d (size_of s m e a c p h)) (second c p m n a b e d (size_of t n d b c p k))

-- ---- A whole number as a double

-- whole numbers below 2^53 are doubles
pub whole-number : (n : ℕ) → n < 2 ^ prec binary64 → Is (of_int binary64 (pos n)) n 1
unfolding of_int
whole-number n h =
    rounds_exact (of_int binary64 (pos n)) n 0 h (lit≤ tt) (record { sign = false; rounded = refl; zero = λ e. no_true (sym e) })
