-- Rounding to the nearest, pure: a fraction below 2 ^ d rounds to within half of 2 ^ (d - prec), and a fraction of few digits
-- does not change. In units of the format's smallest value, of which 2 ^ low make 1.
use Rattle.std.proofs.Common.{◌≡◌, ℕ, ◌+◌, ◌-◌, ◌*◌, ◌/◌, ◌%◌, ◌^◌, ◌<◌, ◌≤◌, not, T, sym, ap, ◌∙◌, le_trans, le_of_eq, lt_of_lt_of_le, mul-le-mul_right, mod-lt, mul_assoc, suc-mul, mul_comm, div-lt_iff_lt-mul, add-mul, mul-lt-mul_of_pos_right, mul-pos, div-add-mod', mul_right_comm, mul_left_comm, arith, eqb→eq, leb→le, pow_pos, pow_mono, pow-add}
use Prim.Native.Nat.{compare, Ordering}
use lib.Dec.{is_le, compare_is_eq, nleb→lt, eqb_refl}
use lib.Arith.{lt_of_le-ne}
use lib.Ieee.{Format, prec, low, size, nearest}
use lib.Ieee.Digits.{size-le}
use lib.Ieee.Nearest.{closest}
use lib.Ieee.Order.{drop}
use lib.Ieee.Scale.{grid}

-- ---- The nearest whole number is off by half at most

-- how a number compares, as a fact
abbrev Compared : Ordering → ℕ → ℕ → Type 0
Compared Ordering.lt a b = a < b
Compared Ordering.eq a b = a ≡ b
Compared Ordering.gt a b = b < a

compared : (a b : ℕ) → Compared (compare a b) a b
compared a b = go (compare a b) (leb→le a b) (nleb→lt a b) (eqb→eq a b) (λ (e : a ≡ b). rw (← e) (eqb_refl a))
  where
    go : (o : Ordering) → (T (is_le o) → a ≤ b) → (T (not (is_le o)) → b < a) → (T (compare_is_eq o) → a ≡ b) → (a ≡ b → T (compare_is_eq o)) → Compared o a b
    go Ordering.lt le gt eq ne = lt_of_le-ne (le tt) ne
    go Ordering.eq le gt eq ne = eq tt
    go Ordering.gt le gt eq ne = gt tt

-- a number g of units u, and n: they differ by half a unit at most
abbrev pub HalfOff : ℕ → ℕ → ℕ → Type 0
HalfOff g u n = (2 * (g * u) ≤ 2 * n + u) × (2 * n ≤ 2 * (g * u) + u)

half-off : (q r u : ℕ) (o : Ordering) → Compared o (r * 2) u → r < u → HalfOff (nearest q o) u (q * u + r)
half-off q r u Ordering.lt h s = omega arith
half-off q r u Ordering.eq h s = odd (q % 2) (omega arith)
  where
    odd : (t : ℕ) → t < 2 → HalfOff (q + t) u (q * u + r)
    odd t k =
        let more : t * u ≤ 1 * u = mul-le-mul_right u (omega arith) in
        rw (add-mul q t u) (omega arith)
half-off q r u Ordering.gt h s = rw (suc-mul q u) (omega arith)

closest-off : (n u : ℕ) → 0 < u → HalfOff (closest n u) u n
closest-off n u p =
    rw (div-add-mod' n u) at (half-off (n / u) (n % u) u (compare (n % u * 2) u) (compared (n % u * 2) u) (mod-lt n p))

-- ---- A fraction below 2 ^ d

module _ (f : Format) (a c d : ℕ) (pos : 0 < c) (below : a < 2 ^ d * c) where
  -- so many digits are dropped at most
  dropped : drop (prec f) (a * 2 ^ low f) c ≤ d + low f - prec f
  dropped =
      let l = 2 ^ low f in
      let h : a * l < 2 ^ (d + low f) * c =
      lt_of_lt_of_le (mul-lt-mul_of_pos_right below (pow_pos (low f)))
      (le_of_eq (mul_right_comm (2 ^ d) c l ∙ ap (λ (x : ℕ). x * c) (sym (pow-add 2 d (low f))))) in
      let s : size (a * l / c) ≤ d + low f = size-le (a * l / c) (d + low f) ((div-lt_iff_lt-mul pos).1 h) in
      omega arith

  -- and what it rounds to, in units, is off by half of 2 ^ (d - prec) at most
  pub grid-off : (2 * (grid f a c * c) ≤ 2 * (a * 2 ^ low f) + 2 ^ (d + low f - prec f) * c)
      × (2 * (a * 2 ^ low f) ≤ 2 * (grid f a c * c) + 2 ^ (d + low f - prec f) * c)
  grid-off =
      let n = a * 2 ^ low f in
      let k = drop (prec f) n c in
      let off = closest-off n (c * 2 ^ k) (mul-pos pos (pow_pos k)) in
      let e : closest n (c * 2 ^ k) * (c * 2 ^ k) ≡ grid f a c * c = simp (mul_assoc, mul_comm, mul_left_comm) in
      let m : c * 2 ^ k ≤ 2 ^ (d + low f - prec f) * c =
      le_trans (le_of_eq (mul_comm c (2 ^ k))) (mul-le-mul_right c (pow_mono dropped)) in
      let o : HalfOff (closest n (c * 2 ^ k)) (c * 2 ^ k) n = off in
      go (closest n (c * 2 ^ k) * (c * 2 ^ k)) (grid f a c * c) n (c * 2 ^ k) (2 ^ (d + low f - prec f) * c) e m o.0 o.1
    where
      go : (x y n u w : ℕ) → x ≡ y → u ≤ w → 2 * x ≤ 2 * n + u → 2 * n ≤ 2 * x + u → (2 * y ≤ 2 * n + w) × (2 * n ≤ 2 * y + w)
      go x y n u w e m lo hi = omega arith
