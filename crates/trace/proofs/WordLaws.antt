-- Laws of words: what a word holds, its marks for every word, and marks of neighbouring parts added.
use Rattle.machine.specs.All.{add_comm, zero-add, suc-add, mul_comm, mul_assoc, add-mul-mod_self_right, add-mul-div_right, subst, drop, take-add, drop-drop, drop-cons, ℕ, zero, suc, ◌+◌, ◌*◌, ◌/◌, ◌%◌, ◌^◌, ◌<◌, mod-eq_of_lt, pow-suc, mul-add-mod_self_left, arith, Bool, true, false, cond, List, [], ◌∷◌, ◌++◌, ◌≡◌, refl, sym, ap, ap₂, ◌∙◌, ltb, length, get_or, ltb-true, ltb-false, count_low, take, append-nil}
use native.Mathlib.Nat.{add-mod}
use Rattle.std.proofs.Math.Nat.{div-div-eq-div-mul}
use lib.Arith.{digits_lt}
use lib.Pow.{pow-add}
use lib.Bits.{bit_and, and_block, and_mask, and_le_r, and_zero_r}
use mir.Syntax.{w64}
use Rattle.std.specs.{List.concat, Int.byte_at, Int.bytes_low_first, Int.from_le_bytes}
use Rattle.std.proofs.lemmas.{Nat.le_bytes_8, List.take_more, List.Folds.concat-append}
use Rattle.trace.proofs.Counting.{count_low-append}
use Rattle.trace.specs.{part, bytes_of, Holds, ones, Marks}

-- ---- Parts of a list

pub part_join : (s : List ℕ) (at n m : ℕ) → part s at (n + m) ≡ part s at n ++ part s (at + n) m
unfolding part
part_join s at n m = take-add n m (drop at s) ∙ ap (λ (l : List ℕ). take n (drop at s) ++ take m l) (drop-drop n at s)

-- ---- What a word holds

bytes-join : (n m : ℕ) {lo : ℕ} (hi : ℕ) → lo < 256 ^ n → bytes_of (n + m) (lo + hi * 256 ^ n) ≡ bytes_of n lo ++ bytes_of m hi
unfolding bytes_of
bytes-join zero m {lo} hi h =
    let word : lo + hi * 256 ^ 0 ≡ hi = omega arith in
    cc (word, zero-add m)
bytes-join (suc n) m {lo} hi h =
    let upper = ap (λ (x : ℕ). hi * x) (pow-suc 256 n) ∙ sym (mul_assoc hi (256 ^ n) 256) in
    ap (λ (x : ℕ). bytes_of x (lo + hi * 256 ^ suc n)) (suc-add n m)
    ∙ ap (λ (x : ℕ). bytes_of (suc (n + m)) (lo + x)) upper
    ∙ ap (λ (x : ℕ). x ∷ bytes_of (n + m) ((lo + hi * 256 ^ n * 256) / 256)) (add-mul-mod_self_right lo _ 256)
    ∙ ap (λ (x : ℕ). lo % 256 ∷ bytes_of (n + m) x) (add-mul-div_right lo _ (omega arith))
    ∙ ap (λ (l : List ℕ). lo % 256 ∷ l) (bytes-join n m hi (omega arith))

holds-join : {n m lo hi : ℕ} {l k : List ℕ} → Holds n l lo → Holds m k hi → Holds (n + m) (l ++ k) (lo + hi * 256 ^ n)
holds-join {n} {m} {lo} {hi} a b = record { bytes = bytes-join n m hi a.below ∙ both a.bytes b.bytes; below = bound }
  where
    both : {x y z w : List ℕ} → x ≡ y → z ≡ w → x ++ z ≡ y ++ w
    both {x} {y} {z} {w} e f = cc

    bound : lo + hi * 256 ^ n < 256 ^ (n + m)
    bound =
        rw (pow-add 256 n m, ← mul_comm (256 ^ m) (256 ^ n))
        (subst (λ (x : ℕ). x < 256 ^ m * 256 ^ n) (add_comm (hi * 256 ^ n) lo) (digits_lt b.below a.below))

pub holds_byte : (s : List ℕ) (at : ℕ) {b : ℕ} → at < length s → b ≡ get_or s at 0 → b < 256 → Holds 1 (part s at 1) b
unfolding bytes_of part
holds_byte s at h e small = record { bytes = rw (drop-cons s at 0 h, ← e, mod-eq_of_lt small); below = small }

-- ---- The bytes of a word

-- from byte i upward
bytes-from : (k i w : ℕ) → bytes_of k (w / 256 ^ i) ≡ bytes_low_first i k w
unfolding bytes_of
bytes-from zero i w = refl
bytes-from (suc k) i w =
    let next : w / 256 ^ i / 256 ≡ w / 256 ^ suc i =
    div-div-eq-div-mul w (256 ^ i) 256 ∙ ap (λ (x : ℕ). w / x) (sym (pow-suc 256 i)) in
    ap₂ (λ (b : ℕ) (l : List ℕ). b ∷ l) (here i) (ap (bytes_of k) next ∙ bytes-from k (suc i) w)
  where
    here : (i : ℕ) → w / 256 ^ i % 256 ≡ byte_at i w
    here zero = omega arith
    here (suc i) = refl

-- the bytes of which a word is made are its own
pub bytes_made : (l : List ℕ) (w : ℕ) → length l ≡ 8 → ((i : ℕ) → get_or l i 0 < 256) → w ≡ from_le_bytes w64 l → bytes_of 8 w ≡ l
bytes_made l w n small e =
    let one : w / 256 ^ 0 ≡ w = omega arith in
    rw one at (bytes-from 8 0 w) ∙ le_bytes_8 l w n small e

-- ---- The marks of a word

-- a 1 in each of n bytes
ones_of : ℕ → ℕ
ones_of zero = 0
ones_of (suc n) = ones_of n * 256 + 1

-- one for each of the n lowest bytes that is not low
highs : ℕ → ℕ → ℕ
highs zero w = 0
highs (suc n) w = w % 256 / 128 + highs n (w / 256)

-- what the marks are a multiple of 255 above
above : ℕ → ℕ → ℕ
above zero w = 0
above (suc n) w = 256 * above n (w / 256) + highs n (w / 256)

marks-step : (n w : ℕ) → bit_and (w / 128) (ones_of (suc n)) ≡ bit_and (w / 256 / 128) (ones_of n) * 256 + w % 256 / 128
unfolding ones_of
marks-step n w =
    let parts : w / 128 ≡ w / 256 / 128 * 256 + w / 128 % 256 = omega arith in
    let lowest : w / 128 % 256 % 2 ≡ w % 256 / 128 = omega arith in
    ap (λ (x : ℕ). bit_and x (ones_of n * 256 + 1)) parts
    ∙ and_block 8 (w / 256 / 128) (ones_of n) (w / 128 % 256) 1 (omega arith) (omega arith)
    ∙ ap (λ (x : ℕ). bit_and (w / 256 / 128) (ones_of n) * 256 + x) (and_mask (w / 128 % 256) 1 ∙ lowest)

marks-above : (n w : ℕ) → bit_and (w / 128) (ones_of n) ≡ 255 * above n w + highs n w
unfolding ones_of above highs
marks-above zero w = and_zero_r (w / 128)
marks-above (suc n) w = let rest = marks-above n (w / 256) in omega (arith, marks-step n w, rest)

-- low and not low bytes are all bytes
all-bytes : (n w : ℕ) → count_low (bytes_of n w) + highs n w ≡ n
unfolding count_low bytes_of highs
all-bytes zero w = refl
all-bytes (suc n) w = go (ltb (w % 256) 128) refl (count_low (bytes_of n (w / 256))) (highs n (w / 256)) (all-bytes n (w / 256))
  where
    go : (x : Bool) → ltb (w % 256) 128 ≡ x → (low high : ℕ) → low + high ≡ n → cond x (suc low) low + (w % 256 / 128 + high) ≡ suc n
    go true e low high h = omega (arith, ltb-true (w % 256) 128 e)
    go false e low high h = omega (arith, ltb-false (w % 256) 128 e)

pub word-marks : (w : ℕ) → Marks 8 (bytes_of 8 w) (bit_and (w / 128) ones)
unfolding ones_of
word-marks w =
    let bytes = all-bytes 8 w in
    let rest : bit_and (w / 128) ones % 255 ≡ highs 8 w =
    ap (λ (x : ℕ). x % 255) (marks-above 8 w) ∙ mul-add-mod_self_left 255 (above 8 w) (highs 8 w) ∙ mod-eq_of_lt (omega arith) in
    record { left = omega arith; small = omega (arith, and_le_r (w / 128) ones) }

-- ---- Marks added

marks-join : {n m r q : ℕ} {l k : List ℕ} → Marks n l r → Marks m k q → n + m < 255 → Marks (n + m) (l ++ k) (r + q)
marks-join {n} {m} {r} {q} {l} {k} a b few =
    let sum : (r + q) % 255 ≡ r % 255 + q % 255 = add-mod r q 255 ∙ mod-eq_of_lt (omega (arith, a.left, b.left)) in
    record { left = omega (arith, a.left, b.left, count_low-append l k); small = omega (arith, a.small, b.small) }

-- one word more
pub marks_more : (l : List (List ℕ)) (i : ℕ) {r q : ℕ} → i < length l → 8 * i + 8 < 255 → Marks (8 * i) (concat (take i l)) r →
    Marks 8 (get_or l i []) q → Marks (8 * (i + 1)) (concat (take (i + 1) l)) (r + q)
marks_more l i {r} {q} h few a b =
    let next : 8 * (i + 1) ≡ 8 * i + 8 = omega arith in
    let one : concat (get_or l i [] ∷ []) ≡ get_or l i [] = append-nil (get_or l i []) in
    rw (take_more l i [] h, concat-append, one, next) (marks-join a b few)

pub no_marks : Marks 0 [] 0
unfolding count_low
no_marks = record { left = refl; small = omega arith }
