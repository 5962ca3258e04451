-- Signed 32-bit numbers and their bits: reading and writing, sums and differences modulo 2 to the 32, equality.
use Rattle.machine.specs.All.{ℕ, zero, suc, ◌-◌, ◌%◌, ◌≤◌, ◌<◌, arith, true, false, ◌≡◌, refl, ap, ◌∙◌, ltb, eqb, lit<, lt-ltb, le-ltb, eq-eqb, ne_eqb, ltb-true, ltb-false, eqb-true, eqb-false, signed, low32, wrap, eq_z, one_if, Bool, cond}
use Rattle.std.proofs.Common.{ℤ, pos, negsuc, ◌-ℤ◌, neg_ℤ, to_z-of_z, w32, SFits, to_z, of_z}
use Rattle.std.specs.Int.{int_wrap}
use lib.IntN.{+ℤ_idl}
use lib.Signed.{mag}
use mir.Facts.{to_z_pos}
use mir.Val.{bool_byte}
use Rattle.evaluation.specs.{small}

-- ---- From bits to number

pub low_signed : (n : ℕ) → n < 2147483648 → signed n ≡ pos n
unfolding signed
low_signed n h = rw (lt-ltb n 2147483648 h)

-- bits of 2^31 and above are negative numbers
pub high-signed : (n : ℕ) → 2147483648 ≤ n → signed n ≡ negsuc (4294967295 - n)
unfolding signed
high-signed n h = rw (le-ltb n 2147483648 h)

-- what `cast_signed` gives
pub cast-signed-is : (n : ℕ) → n < 4294967296 → to_z w32 n ≡ signed n
unfolding signed
cast-signed-is n h = go (ltb n 2147483648) refl
  where
    go : (t : Bool) → ltb n 2147483648 ≡ t → to_z w32 n ≡ cond t (pos n) (negsuc (4294967295 - n))
    go true e = to_z_pos w32 (ltb-true n 2147483648 e)
    go false e = rw (le-ltb n 2147483648 (ltb-false n 2147483648 e)) (ap negsuc (omega arith))

-- ---- From number to bits

pub low32-lt : (z : ℤ) → low32 z < 4294967296
unfolding low32
low32-lt (pos n) = omega arith
low32-lt (negsuc n) = omega arith

-- written as bits and read back
pub back : (z : ℤ) → mag z < 2147483648 → to_z w32 (of_z w32 z) ≡ z
back z h = to_z-of_z {w = w32} {z = z} (record { sfits = h })

-- what `cast_unsigned` gives
pub cast-unsigned-is : (z : ℤ) → SFits w32 z → of_z w32 z ≡ low32 z
unfolding low32
cast-unsigned-is (pos n) h = omega (arith, h.sfits)
cast-unsigned-is (negsuc n) h = omega (arith, h.sfits)

-- ---- Sums and differences modulo 2 to the 32

-- what `wrapping_add` and `wrapping_sub` give
pub wrap-is : (z : ℤ) → int_wrap w32 z ≡ wrap z
unfolding wrap low32 int_wrap
wrap-is (pos n) = cast-signed-is (n % 4294967296) (omega arith)
wrap-is (negsuc n) = cast-signed-is (4294967295 - n % 4294967296) (omega arith)

-- a number in range is that of its low bits: what LET stores is read back
pub signed_low : (z : ℤ) → mag z < 2147483648 → signed (low32 z) ≡ z
unfolding low32
signed_low (pos n) h = low_signed (n % 4294967296) (omega arith) ∙ ap pos (omega arith)
signed_low (negsuc n) h = high-signed (4294967295 - n % 4294967296) (omega arith) ∙ ap negsuc (omega arith)

-- ---- Equality by the bits

-- numbers are equal where their bits are
pub bits-equal : (a b : ℤ) → SFits w32 a → SFits w32 b → eqb (of_z w32 a) (of_z w32 b) ≡ eq_z a b
unfolding eq_z
bits-equal (pos a) (pos b) f g = refl
bits-equal (pos a) (negsuc b) f g =
    let l : a < 2147483648 = f.sfits in
    let k : b < 2147483648 = g.sfits in ne_eqb a (4294967296 - suc b) (λ e. omega arith)
bits-equal (negsuc a) (pos b) f g =
    let l : a < 2147483648 = f.sfits in
    let k : b < 2147483648 = g.sfits in ne_eqb (4294967296 - suc a) b (λ e. omega arith)
bits-equal (negsuc a) (negsuc b) f g = go (eqb a b) refl
  where
    go : (t : Bool) → eqb a b ≡ t → eqb (4294967296 - suc a) (4294967296 - suc b) ≡ t
    go true e = eq-eqb (4294967296 - suc a) (4294967296 - suc b) (ap (λ (n : ℕ). 4294967296 - suc n) (eqb-true a b e))
    go false e =
        let l : a < 2147483648 = f.sfits in
        let k : b < 2147483648 = g.sfits in
        ne_eqb (4294967296 - suc a) (4294967296 - suc b) (λ h. eqb-false a b e (omega arith))

-- ---- Small numbers and their negatives

small-lt : (n : ℕ) → mag (neg_ℤ (small n)) < 2147483648
unfolding small
small-lt n = go (ltb n 2147483648) refl
  where
    neg-lt : (k : ℕ) → k < 2147483648 → mag (neg_ℤ (pos k)) < 2147483648
    neg-lt zero h = h
    neg-lt (suc k) h = omega arith

    go : (t : Bool) → ltb n 2147483648 ≡ t → mag (neg_ℤ (cond t (pos n) (pos 0))) < 2147483648
    go true e = neg-lt n (ltb-true n 2147483648 e)
    go false e = neg-lt 0 (lit< tt)

module _ (z : ℤ) (n : ℕ) (e : z ≡ small n) where
  minus_is : pos 0 -ℤ z ≡ neg_ℤ (small n)
  minus_is = +ℤ_idl (neg_ℤ z) ∙ ap neg_ℤ e

  pub minus-fits : SFits w32 (pos 0 -ℤ z)
  minus-fits = record { sfits = rw minus_is (small-lt n) }

  pub minus-back : to_z w32 (of_z w32 (pos 0 -ℤ z)) ≡ neg_ℤ (small n)
  minus-back = to_z-of_z minus-fits ∙ minus_is

-- ---- 1 or 0

pub one_if-is : (b : Bool) → pos (bool_byte b) ≡ one_if b
one_if-is true = refl
one_if-is false = refl
