-- Doubles and their values, pure: the same value by another fraction, and what each operation rounds. A zero may have either
-- sign, in the operands and in the result.
use Rattle.std.proofs.Common.{◌≡◌, ℕ, suc, ◌+◌, ◌-◌, ◌*◌, ◌^◌, ◌<◌, ◌≤◌, Bool, true, false, cond, not, ◌&&◌, ltb, ℤ, sym, refl, ap, ◌∙◌, subst, le_trans, le_of_eq, lt_of_lt_of_le, mul-le-mul_right, mul_assoc, mul_comm, add-mul, lt_of_mul-lt-mul_right, mul-lt-mul_of_pos_right, mul-pos, mul-zero, zero-mul, mul_right_comm, le_of_mul-le-mul_right, arith, lit≤, pow_pos, pow_mono, pow-add, shl_lt, ltb-false, le-ltb, ne_eqb}
use native.Mathlib.Nat.{mul-mul-mul_comm, mul-sub, eq_of_mul-eq-mul_right}
use mathlib.Core.Bool.{beq}
use lib.Ieee.{Float, nan, inf, fin, binary64, prec, emax, low, up, down, round, neg, sum, add, sub, mul, div}
use lib.Ieee.Fits.{up_pos, down_pos}
use lib.Ieee.Digits.{back}
use lib.Ieee.Exact.{HasValue, round_exact}
use lib.Ieee.Positive.{first_pos}
use lib.Ieee.Scale.{grid, round_same, round_val}
use Rattle.floats.proofs.Rounding.{grid-off}
use Rattle.floats.specs.{Is}
use lib.Ieee.Scale.{overflow}

-- ---- One value, several fractions

-- a / c ≡ b / d, seen from m
across : (x c a y d b : ℕ) → 0 < c → x * c ≡ a * y → b * c ≡ a * d → x * d ≡ b * y
across x c a y d b p e f =
    eq_of_mul-eq-mul_right c p (x * d) (b * y)
    (mul_right_comm x d c ∙ ap (λ (z : ℕ). z * d) e ∙ mul_right_comm a y d ∙ ap (λ (z : ℕ). z * y) (sym f) ∙ mul_right_comm b c y)

pub zero_left : (b c : ℕ) → 0 < c → b * c ≡ 0 → b ≡ 0
zero_left b c p e = eq_of_mul-eq-mul_right c p b 0 (e ∙ sym (zero-mul c))

-- one value as two fractions
pub is_rescaled : (x : Float) (a c b d : ℕ) → 0 < c → b * c ≡ a * d → Is x a c → Is x b d
is_rescaled nan a c b d p e h = h
is_rescaled (inf s) a c b d p e h = h
is_rescaled (fin false m x) a c b d p e h = across (m * up x) c a (down x) d b p h e
is_rescaled (fin true m x) a c b d p e h = (h.0, zero_left b c p (e ∙ ap (λ (z : ℕ). z * d) h.1 ∙ zero-mul d))

-- from the library's own statement
pub no_true : {A : Type 0} → true ≡ false → A
no_true e = let z : ◌≡◌ {A = ℕ} 0 1 = ap (λ (b : Bool). cond b 0 1) e in absurd (omega arith)

-- a float of the kit's model that has this value
pub value-is : (x : Float) (s : Bool) (a c : ℕ) → 0 < c → (s ≡ true → a ≡ 0) → HasValue x s a c → Is x a c
value-is nan s a c p z h = h
value-is (inf t) s a c p z h = h
value-is (fin false m x) s a c p z h = h.1
value-is (fin true m x) s a c p z h =
    let a0 : a ≡ 0 = z (sym h.0) in
    let e : m * (up x * c) ≡ 0 = sym (mul_assoc m (up x) c) ∙ h.1 ∙ ap (λ (y : ℕ). y * down x) a0 ∙ zero-mul (down x) in
    (zero_left m (up x * c) (mul-pos (up_pos x) p) e, a0)

-- the size, whatever the sign
pub size_of : (s : Bool) (m : ℕ) (e : ℤ) (a c : ℕ) → 0 < c → Is (fin s m e) a c → m * up e * c ≡ a * down e
size_of false m e a c p h = h
size_of true m e a c p h = rw (h.0, h.1, zero-mul (up e), zero-mul c, zero-mul (down e))

first_of : (s t : Bool) → s && t ≡ true → s ≡ true
first_of true t e = refl
first_of false t e = e

-- ---- What an operation rounds

-- x is a / c rounded
pub record Rounds (x : Float) (a c : ℕ) : Type 0 where
  pub sign : Bool
  pub rounded : x ≡ round binary64 sign a c
  pub zero : sign ≡ true → a ≡ 0

-- a fraction equal to this one
pub rounds_rescaled : (x : Float) (a c b d : ℕ) → 0 < c → 0 < d → a * d ≡ b * c → Rounds x a c → Rounds x b d
rounds_rescaled x a c b d p q e h =
    record {
      sign = h.sign;
      rounded = h.rounded ∙ round_same binary64 h.sign a c b d p q e;
      zero = λ t. zero_left b c p (sym e ∙ ap (λ (z : ℕ). z * d) (h.zero t) ∙ zero-mul d);
    }

-- with the fraction that the operation itself forms
formed : {x : Float} (s : Bool) (a c b d : ℕ) → 0 < c → 0 < d → a * d ≡ b * c → (s ≡ true → b ≡ 0) →
    x ≡ round binary64 s a c → Rounds x b d
formed s a c b d p q e z h = record { sign = s; rounded = h ∙ round_same binary64 s a c b d p q e; zero = z }

never : {A : Type 0} → false ≡ true → A
never e = no_true (sym e)

-- ---- Sums

module _ (c : ℕ) (p : 0 < c) where
  -- of operands A / C and B / C, which are a / c and b / c
  module _ (A B C a b : ℕ) (q : 0 < C) (e : A * c ≡ a * C) (f : B * c ≡ b * C) where
    plus : (A + B) * c ≡ (a + b) * C
    plus = rw (add-mul A B c, add-mul a b C, e, f)

    minus : (A - B) * c ≡ (a - b) * C
    minus =
        mul_comm (A - B) c ∙ mul-sub c A B ∙ rw (mul_comm c A, mul_comm c B, e, f)
        (sym (mul_comm (a - b) C ∙ mul-sub C a b ∙ rw (mul_comm C a, mul_comm C b)))

    ordered : b ≤ a → B ≤ A
    ordered h = le_of_mul-le-mul_right (le_trans (le_of_eq f) (le_trans (mul-le-mul_right C h) (le_of_eq (sym e)))) p

    like_signs : (s : Bool) → (s ≡ true → a + b ≡ 0) → Rounds (round binary64 s (A + B) C) (a + b) c
    like_signs s z = formed s (A + B) C (a + b) c q p plus z refl

    taken-off : (s t : Bool) → b ≤ a → (s ≡ true → a ≡ 0) →
        Rounds (cond (ltb A B) (round binary64 t (B - A) C) (round binary64 (s && ltb B A) (A - B) C)) (a - b) c
    taken-off s t h z =
        rw (le-ltb A B (ordered h))
        (formed (s && ltb B A) (A - B) C (a - b) c q p minus (λ g. omega (arith, z (first_of s (ltb B A) g))) refl)

    over_zero : a ≡ 0 → Rounds (cond (ltb A B) (round binary64 false (B - A) C) (round binary64 (ltb B A) (A - B) C)) (a + b) c
    over_zero z =
        let A0 : A ≡ 0 = zero_left A c p (e ∙ ap (λ (x : ℕ). x * C) z ∙ zero-mul C) in
        go (ltb A B) refl A0
      where
        go : (t : Bool) → ltb A B ≡ t → A ≡ 0 →
            Rounds (cond t (round binary64 false (B - A) C) (round binary64 (ltb B A) (A - B) C)) (a + b) c
        go true g A0 =
            let d : B - A ≡ A + B = omega arith in
            formed false (B - A) C (a + b) c q p (ap (λ (x : ℕ). x * c) d ∙ plus) never refl
        go false g A0 =
            let B0 : B ≡ 0 = omega (arith, ltb-false A B g) in
            let d : A - B ≡ A + B = omega arith in
            let b0 : b ≡ 0 = zero_left b C q (sym f ∙ ap (λ (x : ℕ). x * c) B0 ∙ zero-mul c) in
            formed (ltb B A) (A - B) C (a + b) c q p (ap (λ (x : ℕ). x * c) d ∙ plus) (λ _. omega arith) refl

  -- a fraction over both denominators
  left : (x u w a : ℕ) → x * c ≡ a * u → x * w * c ≡ a * (u * w)
  left x u w a e = mul_right_comm x w c ∙ ap (λ (z : ℕ). z * w) e ∙ mul_assoc a u w

  right : (y u w b : ℕ) → y * c ≡ b * w → y * u * c ≡ b * (u * w)
  right y u w b e = mul_right_comm y u c ∙ ap (λ (z : ℕ). z * u) e ∙ mul_right_comm b w u ∙ mul_assoc b u w

  none_of : (m u a w : ℕ) → m ≡ 0 → a ≡ 0 → m * u * c ≡ a * w
  none_of m u a w e f = rw (e, f, zero-mul u, zero-mul c, zero-mul w)

  module _ (m n a b : ℕ) (e d : ℤ) where
    under : 0 < down e * down d
    under = mul-pos (down_pos e) (down_pos d)

    pub first : m * up e * c ≡ a * down e → m * up e * down d * c ≡ a * (down e * down d)
    first = left (m * up e) (down e) (down d) a

    pub second : n * up d * c ≡ b * down d → n * up d * down e * c ≡ b * (down e * down d)
    second = right (n * up d) (down e) (down d) b

  -- each operation gives the double nearest to the exact result: sums,
  pub add_rounds : (x y : Float) (a b : ℕ) → Is x a c → Is y b c → Rounds (add binary64 x y) (a + b) c
  unfolding add sum
  add_rounds nan y a b h k = absurd h
  add_rounds (inf s) y a b h k = absurd h
  add_rounds (fin s m e) nan a b h k = absurd k
  add_rounds (fin s m e) (inf t) a b h k = absurd k
  add_rounds (fin false m e) (fin false n d) a b h k =
      like_signs _ _ _ a b (under m n a b e d) (first m n a b e d h) (second m n a b e d k) false never
  add_rounds (fin false m e) (fin true n d) a b h k =
      let zero = none_of n (up d) b (down d) k.0 k.1 in
      subst (λ (z : ℕ). Rounds (add binary64 (fin false m e) (fin true n d)) z c) (omega (arith, k.1))
      (taken-off _ _ _ a b (under m n a b e d) (first m n a b e d h) (second m n a b e d zero) false true (omega (arith, k.1)) never)
  add_rounds (fin true m e) (fin false n d) a b h k =
      over_zero _ _ _ a b (under m n a b e d) (first m n a b e d (none_of m (up e) a (down e) h.0 h.1)) (second m n a b e d k) h.1
  add_rounds (fin true m e) (fin true n d) a b h k =
      like_signs _ _ _ a b (under m n a b e d) (first m n a b e d (none_of m (up e) a (down e) h.0 h.1))
      (second m n a b e d (none_of n (up d) b (down d) k.0 k.1)) true (λ _. omega (arith, h.1, k.1))

  -- differences,
  pub sub_rounds : (x y : Float) (a b : ℕ) → b ≤ a → Is x a c → Is y b c → Rounds (sub binary64 x y) (a - b) c
  unfolding sub add neg sum
  sub_rounds nan y a b l h k = absurd h
  sub_rounds (inf s) y a b l h k = absurd h
  sub_rounds (fin s m e) nan a b l h k = absurd k
  sub_rounds (fin s m e) (inf t) a b l h k = absurd k
  sub_rounds (fin false m e) (fin false n d) a b l h k =
      taken-off _ _ _ a b (under m n a b e d) (first m n a b e d h) (second m n a b e d k) false true l never
  sub_rounds (fin false m e) (fin true n d) a b l h k =
      subst (λ (z : ℕ). Rounds (sub binary64 (fin false m e) (fin true n d)) z c) (omega (arith, k.1))
      (like_signs _ _ _ a b (under m n a b e d) (first m n a b e d h)
      (second m n a b e d (none_of n (up d) b (down d) k.0 k.1)) false never)
  sub_rounds (fin true m e) (fin false n d) a b l h k =
      subst (λ (z : ℕ). Rounds (sub binary64 (fin true m e) (fin false n d)) z c) (omega (arith, h.1))
      (like_signs _ _ _ a b (under m n a b e d) (first m n a b e d (none_of m (up e) a (down e) h.0 h.1))
      (second m n a b e d k) true (λ _. omega (arith, h.1)))
  sub_rounds (fin true m e) (fin true n d) a b l h k =
      subst (λ (z : ℕ). Rounds (sub binary64 (fin true m e) (fin true n d)) z c) (omega (arith, h.1, k.1))
      (over_zero _ _ _ a b (under m n a b e d) (first m n a b e d (none_of m (up e) a (down e) h.0 h.1))
      (second m n a b e d (none_of n (up d) b (down d) k.0 k.1)) h.1)

-- ---- Products and quotients

-- products,
pub mul_rounds : (x y : Float) (a c b d : ℕ) → 0 < c → 0 < d → Is x a c → Is y b d → Rounds (mul binary64 x y) (a * b) (c * d)
unfolding mul
mul_rounds nan y a c b d p q h k = absurd h
mul_rounds (inf s) y a c b d p q h k = absurd h
mul_rounds (fin s m e) nan a c b d p q h k = absurd k
mul_rounds (fin s m e) (inf t) a c b d p q h k = absurd k
mul_rounds (fin s m e) (fin t n g) a c b d p q h k =
    formed (not (beq s t)) (m * up e * (n * up g)) (down e * down g) (a * b) (c * d) (mul-pos (down_pos e) (down_pos g)) (mul-pos p q)
    (mul-mul-mul_comm (m * up e) (n * up g) c d
    ∙ ap (λ (z : ℕ). z * (n * up g * d)) (size_of s m e a c p h)
    ∙ ap (λ (z : ℕ). a * down e * z) (size_of t n g b d q k)
    ∙ mul-mul-mul_comm a (down e) b (down g))
    (λ u. one_negative s t m n e g a c b d h k u) refl
  where
    one_negative : (s t : Bool) (m n : ℕ) (e g : ℤ) (a c b d : ℕ) → Is (fin s m e) a c → Is (fin t n g) b d
        → not (beq s t) ≡ true → a * b ≡ 0
    one_negative false false m n e g a c b d h k u = never u
    one_negative false true m n e g a c b d h k u = ap (λ (z : ℕ). a * z) k.1 ∙ mul-zero a
    one_negative true false m n e g a c b d h k u = ap (λ (z : ℕ). z * b) h.1 ∙ zero-mul b
    one_negative true true m n e g a c b d h k u = never u

-- quotients
pub div_rounds : (x y : Float) (a c b d : ℕ) → 0 < c → 0 < d → 0 < b → Is x a c → Is y b d → Rounds (div binary64 x y) (a * d) (c * b)
unfolding div
div_rounds nan y a c b d p q r h k = absurd h
div_rounds (inf s) y a c b d p q r h k = absurd h
div_rounds (fin s m e) nan a c b d p q r h k = absurd k
div_rounds (fin s m e) (inf t) a c b d p q r h k = absurd k
div_rounds (fin s m e) (fin true n g) a c b d p q r h k = absurd (omega arith)
div_rounds (fin s m e) (fin false n g) a c b d p q r h k =
    let n0 = first_pos n (up g) (first_pos _ d (rw k (mul-pos r (down_pos g)))) in
    rw (ne_eqb n 0 (λ z. omega arith))
    (formed _ _ _ _ _ (mul-pos (mul-pos n0 (up_pos g)) (down_pos e)) (mul-pos p r)
    (cc (
      mul-mul-mul_comm (m * up e) (down g) c b,
      size_of s m e a c p h,
      mul_comm (down g) b,
      k,
      mul_comm (n * up g) d,
      mul-mul-mul_comm a (down e) d (n * up g),
      mul_comm (down e) (n * up g),
    ))
    (λ u. negative s m e a c d h u) refl)
  where
    negative : (s : Bool) (m : ℕ) (e : ℤ) (a c d : ℕ) → Is (fin s m e) a c → not (beq s false) ≡ true → a * d ≡ 0
    negative false m e a c d h u = never u
    negative true m e a c d h u = cc (h.1, zero-mul d)

-- ---- The result

-- a / 2 ^ k of at most 53 digits is not changed
pub rounds_exact : (x : Float) (a k : ℕ) → a < 2 ^ prec binary64 → k ≤ low binary64 → Rounds x a (2 ^ k) → Is x a (2 ^ k)
rounds_exact x a k small fine h =
    let l = low binary64 in
    let j : l - k + k ≡ l = back l k fine in
    let e : a * 2 ^ l ≡ a * 2 ^ (l - k) * 2 ^ k = ap (λ (z : ℕ). a * 2 ^ z) (sym j) ∙ ap (λ (z : ℕ). a * z) (pow-add 2 (l - k) k)
    ∙ sym (mul_assoc a (2 ^ (l - k)) (2 ^ k)) in
    let room : a * 2 ^ (l - k) < 2 ^ (l + suc (emax binary64)) =
    lt_of_lt_of_le (shl_lt (prec binary64) (l - k) small) (pow_mono (enough k)) in
    value-is x h.sign a (2 ^ k) (pow_pos k) h.zero
    (subst (λ (z : Float). HasValue z h.sign a (2 ^ k)) (sym h.rounded)
    (round_exact binary64 h.sign a (2 ^ k) a (l - k) (pow_pos k) small room e))
  where
    enough : (k : ℕ) → prec binary64 + (low binary64 - k) ≤ low binary64 + suc (emax binary64)
    enough k = omega arith

-- units of the smallest value, of which so many make 1
abbrev pub one : ℕ
one = 2 ^ low binary64

-- a / c below 2 ^ 20 is, in units, off by half of 2 ^ 1041 at most
pub record Off (x : Float) (a c : ℕ) : Type 0 where
  pub units : ℕ
  pub is : Is x units one
  pub below : 2 * (units * c) ≤ 2 * (a * one) + 2 ^ 1041 * c
  pub above : 2 * (a * one) ≤ 2 * (units * c) + 2 ^ 1041 * c

-- what is off by so little is below the bound and as much again
bounded : (g c a l E B : ℕ) → 0 < c → 0 < l → a < B * c → 2 * (g * c) ≤ 2 * (a * l) + E * c → g < B * l + E
bounded g c a l E B p q h k =
    let m : a * l < B * c * l = mul-lt-mul_of_pos_right h q in
    let r : B * c * l ≡ B * l * c = mul_right_comm B c l in
    let t : (B * l + E) * c ≡ B * l * c + E * c = add-mul (B * l) E c in
    lt_of_mul-lt-mul_right c (omega arith)

under_overflow : (g B l E top : ℕ) → g < B * l + E → E ≤ l → (B + 1) * l ≤ top → g < top
under_overflow g B l E top h k m = omega (arith, add-mul B 1 l)

-- a rounded value below 2^20 is off by at most 1/8,000,000,000
pub rounds-off : (x : Float) (a c : ℕ) → 0 < c → a < 2 ^ 20 * c → Rounds x a c → Off x a c
rounds-off x a c p h r = go r.sign refl
  where
    up_to : grid binary64 a c < overflow binary64
    up_to =
        under_overflow (grid binary64 a c) (2 ^ 20) one (2 ^ 1041) (overflow binary64)
        (bounded (grid binary64 a c) c a one (2 ^ 1041) (2 ^ 20) p (pow_pos (low binary64)) h (grid-off binary64 a c 20 p h).0)
        (pow_mono {i = 1041} {j = low binary64} (lit≤ tt)) (lit≤ tt)

    go : (s : Bool) → r.sign ≡ s → Off x a c
    go false e =
        record {
          units = grid binary64 a c;
          is =
              value-is x false (grid binary64 a c) one (pow_pos (low binary64)) never
              (subst (λ (z : Float). HasValue z false (grid binary64 a c) one)
              (sym (r.rounded ∙ ap (λ (t : Bool). round binary64 t a c) e)) (round_val binary64 a c up_to));
          below = (grid-off binary64 a c 20 p h).0;
          above = (grid-off binary64 a c 20 p h).1;
        }
    go true e =
        let a0 : a ≡ 0 = r.zero e in
        let zero : Rounds x 0 (2 ^ 0) = rounds_rescaled x a c 0 1 p (pow_pos 0) (rw (a0) (sym (zero-mul c))) r in
        record {
          units = 0;
          is = is_rescaled x 0 1 0 one (pow_pos 0) refl (rounds_exact x 0 0 (pow_pos (prec binary64)) (lit≤ tt) zero);
          below = rw (zero-mul c) (lowest (2 * (a * one) + 2 ^ 1041 * c));
          above = rw (a0, zero-mul one) (lowest (2 * (0 * c) + 2 ^ 1041 * c));
        }
      where
        lowest : (n : ℕ) → 2 * 0 ≤ n
        lowest n = omega arith
