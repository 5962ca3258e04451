-- A segment of a curve and a spread, pure: all operations but the division and the last sum are exact, and these two are off
-- by half of 2 ^ -33 at most.
use Rattle.std.proofs.Common.{◌≡◌, ℕ, ◌+◌, ◌-◌, ◌*◌, ◌/◌, ◌%◌, ◌^◌, ◌<◌, ◌≤◌, Bool, true, false, eqb, sym, refl, ap, ◌∙◌, subst, le_trans, le_of_eq, lt_of_le_of_lt, mul-le-mul_right, mul_assoc, mul_comm, div-lt_iff_lt-mul, add-mul, mul-le-mul, lt_of_mul-lt-mul_right, mul-le-mul_left, mul-pos, one-mul, div-add-mod', mul_right_comm, div-mul-le_self, le_of_mul-le-mul_right, mul_left_comm, arith, lit<, lit≤, pow_pos, pow-add, eqb-true}
use native.Mathlib.Nat.{mul-mul-mul_comm, mul-mod_left, lt-div-mul-add, div-eq_of_lt-le, mul-add-mod_self_right}
use lib.Arith.{lt_of_le-ne}
use borrow.Author.Tests.{eqb-false}
use lib.Ieee.Nearest.{div_same}
use lib.Ieee.{Float, binary64, prec, of_bits, add, sub, mul, div}
use Rattle.floats.specs.{max_time_parts, max_mean_parts, draw_parts, million, Is, whole_part_lem, line_double, line_over, line_under, Ends, Near, OnLine, spread_double, spread_over, spread_under, Width, Exactly}
use Rattle.floats.proofs as our
use our.Values.{Rounds, Off, one, is_rescaled, rounds_rescaled, rounds_exact, rounds-off, add_rounds, sub_rounds, mul_rounds, div_rounds}
use our.Whole.{whole_is}

-- ---- Exact operations on multiples of 1 / 2 ^ k

-- few enough digits
few : (a b : ℕ) → a ≤ b → b < 2 ^ prec binary64 → a < 2 ^ prec binary64
few a b h k = lt_of_le_of_lt h k

module _ (k : ℕ) (fine : k ≤ 1074) where
  exact-sub : (x y : Float) (a b most : ℕ) → b ≤ a → a ≤ most → most < 2 ^ prec binary64 → Is x a (2 ^ k) → Is y b (2 ^ k) →
      Is (sub binary64 x y) (a - b) (2 ^ k)
  exact-sub x y a b most h small digits is js =
      rounds_exact _ (a - b) k (few (a - b) most (omega arith) digits) fine (sub_rounds (2 ^ k) (pow_pos k) x y a b h is js)

  exact-add : (x y : Float) (a b : ℕ) → a + b < 2 ^ prec binary64 → Is x a (2 ^ k) → Is y b (2 ^ k) → Is (add binary64 x y) (a + b) (2 ^ k)
  exact-add x y a b digits is js = rounds_exact _ (a + b) k digits fine (add_rounds (2 ^ k) (pow_pos k) x y a b is js)

exact-mul : (x y : Float) (a b j k : ℕ) → j + k ≤ 1074 → a * b < 2 ^ prec binary64 → Is x a (2 ^ j) → Is y b (2 ^ k) →
    Is (mul binary64 x y) (a * b) (2 ^ (j + k))
exact-mul x y a b j k fine digits is js =
    rounds_exact _ _ _ digits fine
    (rw (← pow-add 2 j k) at (mul_rounds x y a (2 ^ j) b (2 ^ k) (pow_pos j) (pow_pos k) is js))

-- ---- Spread

module _ (mean half u : Float) (m h v : ℕ) (w : Width mean half m h) (at : Is u v draw_parts) (inside : v ≤ draw_parts) where
  doubled : Is (mul binary64 (of_bits binary64 0x4000000000000000) half) (2 * h) (2 ^ 6)
  unfolding of_bits
  doubled =
      exact-mul (of_bits binary64 0x4000000000000000) half 2 h 0 6 (lit≤ tt)
      (few (2 * h) max_time_parts (omega (arith, w.half-most, w.mean-most)) (lit< tt)) refl w.half_is

  product : 2 * h * v ≤ max_time_parts * draw_parts
  product = mul-le-mul {n₂ = max_time_parts} {m₂ = draw_parts} (omega (arith, w.half-most, w.mean-most)) inside

  drawn : Is (mul binary64 (mul binary64 (of_bits binary64 0x4000000000000000) half) u) (2 * h * v) (2 ^ 22)
  drawn = exact-mul _ u (2 * h) v 6 16 (lit≤ tt) (few (2 * h * v) (max_time_parts * draw_parts) product (lit< tt)) doubled at

  lowest : Is (sub binary64 mean half) ((m - h) * draw_parts) (2 ^ 22)
  lowest =
      is_rescaled (sub binary64 mean half) (m - h) (2 ^ 6) ((m - h) * draw_parts) (2 ^ 22) (pow_pos 6) (mul_assoc (m - h) draw_parts 64)
      (exact-sub 6 (lit≤ tt) mean half m h max_mean_parts w.half-most w.mean-most (lit< tt) w.mean-is w.half_is)

  over-most : spread_over m h v ≤ 8388608000000
  over-most = omega (arith, product, w.mean-most)

  spread-is : Is (spread_double mean half u) (spread_over m h v) spread_under
  unfolding spread_double
  spread-is =
      exact-add 22 (lit≤ tt) _ _ ((m - h) * draw_parts) (2 * h * v) (few (spread_over m h v) 8388608000000 over-most (lit< tt)) lowest drawn

  -- a spread time is exact: no operation of it rounds
  pub spread_exactly : Exactly (spread_double mean half u) (spread_over m h v) spread_under
  spread_exactly =
      record {
        is = spread-is;
        whole = whole_is (spread_over m h v) spread_under (lit≤ tt) (omega (arith, over-most)) (spread_double mean half u) spread-is;
      }

-- ---- Segment: what two roundings can do, over whole numbers. 64 * C units make 1, and E of them are 2 ^ -33.

module _ (C E w P t0 t1 g h : ℕ) (ce : C ≡ 134217728 * E) (e0 : 0 < E) (w0 : 0 < w) (ordered : t0 ≤ t1) (most : t1 ≤ max_time_parts)
    (line : P ≤ (t1 - t0) * w)
    (g-below : 2 * (g * (64 * w)) ≤ 2 * (P * (64 * C)) + E * (64 * w))
    (g-above : 2 * (P * (64 * C)) ≤ 2 * (g * (64 * w)) + E * (64 * w)) where
  quotient-below : g * w ≤ P * C + E * w
  quotient-below =
      let a : g * (64 * w) ≡ 64 * (g * w) = mul_left_comm g 64 w in
      let b : P * (64 * C) ≡ 64 * (P * C) = mul_left_comm P 64 C in
      let d : E * (64 * w) ≡ 64 * (E * w) = mul_left_comm E 64 w in
      omega arith

  -- the sum stays below 2 ^ 20
  pub sum-small : t0 * C + g < 1048576 * (64 * C)
  sum-small =
      let pc : P * C ≤ (t1 - t0) * w * C = mul-le-mul_right C line in
      let comm : (t1 - t0) * w * C ≡ (t1 - t0) * C * w = mul_right_comm (t1 - t0) w C in
      let both : ((t1 - t0) * C + E) * w ≡ (t1 - t0) * C * w + E * w = add-mul ((t1 - t0) * C) E w in
      let step : g * w ≤ ((t1 - t0) * C + E) * w = omega (arith, quotient-below) in
      let gmost : g ≤ (t1 - t0) * C + E = le_of_mul-le-mul_right step w0 in
      let join : t0 * C + (t1 - t0) * C ≡ t1 * C = sym (add-mul t0 (t1 - t0) C) ∙ ap (λ (z : ℕ). z * C) (omega arith) in
      let top : t1 * C ≤ max_time_parts * C = mul-le-mul_right C most in
      omega arith

  module _ (L : ℕ) (l0 : 0 < L) (h-below : 2 * (h * L) ≤ 2 * ((t0 * C + g) * L) + E * L)
      (h-above : 2 * ((t0 * C + g) * L) ≤ 2 * (h * L) + E * L) where
    sum_below : 2 * h ≤ 2 * (t0 * C + g) + E
    sum_below = le_of_mul-le-mul_right {k = L} (rw (add-mul (2 * (t0 * C + g)) E L, mul_assoc 2 h L, mul_assoc 2 (t0 * C + g) L) h-below) l0

    sum-above : 2 * (t0 * C + g) ≤ 2 * h + E
    sum-above = le_of_mul-le-mul_right {k = L} (rw (add-mul (2 * h) E L, mul_assoc 2 h L, mul_assoc 2 (t0 * C + g) L) h-above) l0

    -- the line in units, times w
    exact : (t0 * w + P) * C ≡ t0 * C * w + P * C
    exact = add-mul (t0 * w) P C ∙ ap (λ (z : ℕ). z + P * C) (mul_right_comm t0 w C)

    pub line-below : h * w ≤ (t0 * w + P) * C + E * w
    line-below =
        let a : 2 * h * w ≤ (2 * (t0 * C + g) + E) * w = mul-le-mul_right w sum_below in
        let b : 2 * h * w ≡ 2 * (h * w) = mul_assoc 2 h w in
        let d : (2 * (t0 * C + g) + E) * w ≡ 2 * (t0 * C + g) * w + E * w = add-mul (2 * (t0 * C + g)) E w in
        let f : 2 * (t0 * C + g) * w ≡ 2 * ((t0 * C + g) * w) = mul_assoc 2 (t0 * C + g) w in
        let i : (t0 * C + g) * w ≡ t0 * C * w + g * w = add-mul (t0 * C) g w in
        let j : g * (64 * w) ≡ 64 * (g * w) = mul_left_comm g 64 w in
        let k : P * (64 * C) ≡ 64 * (P * C) = mul_left_comm P 64 C in
        let l : E * (64 * w) ≡ 64 * (E * w) = mul_left_comm E 64 w in
        omega (arith, exact)

    pub line-above : (t0 * w + P) * C ≤ h * w + E * w
    line-above =
        let a : 2 * (t0 * C + g) * w ≤ (2 * h + E) * w = mul-le-mul_right w sum-above in
        let b : 2 * h * w ≡ 2 * (h * w) = mul_assoc 2 h w in
        let d : (2 * h + E) * w ≡ 2 * h * w + E * w = add-mul (2 * h) E w in
        let f : 2 * (t0 * C + g) * w ≡ 2 * ((t0 * C + g) * w) = mul_assoc 2 (t0 * C + g) w in
        let i : (t0 * C + g) * w ≡ t0 * C * w + g * w = add-mul (t0 * C) g w in
        let j : g * (64 * w) ≡ 64 * (g * w) = mul_left_comm g 64 w in
        let k : P * (64 * C) ≡ 64 * (P * C) = mul_left_comm P 64 C in
        let l : E * (64 * w) ≡ 64 * (E * w) = mul_left_comm E 64 w in
        omega (arith, exact)

-- what follows for h units, of which 64 * C make 1, and the line n / (64 * w)
module _ (C E w n h : ℕ) (ce : C ≡ 134217728 * E) (e0 : 0 < E) (w0 : 0 < w) (w1 : w ≤ draw_parts)
    (below : h * w ≤ n * C + E * w) (above : n * C ≤ h * w + E * w) where
  scaled : w * C ≡ 134217728 * (E * w)
  scaled = mul_comm w C ∙ ap (λ (z : ℕ). z * w) ce ∙ mul_assoc 134217728 E w

  sides : (64 * w) * (64 * C) ≡ 4096 * (w * C)
  sides = mul-mul-mul_comm 64 w 64 C

  -- the double of a line is off by at most a millionth, above
  pub not-above : h * (64 * w) * million ≤ n * (64 * C) * million + (64 * w) * (64 * C)
  not-above = omega (arith, scaled, sides, mul_left_comm h 64 w, mul_left_comm n 64 C)

  -- and below
  pub not-below : n * (64 * C) * million ≤ h * (64 * w) * million + (64 * w) * (64 * C)
  not-below = omega (arith, scaled, sides, mul_left_comm h 64 w, mul_left_comm n 64 C)

  -- an error so small crosses no whole number that the line is not on
  little : E * w < C
  little = lt_of_le_of_lt (mul-le-mul_left E w1) (omega arith)

  module _ (off : (n % w ≡ 0) → ⊥) where
    q : ℕ
    q = n / (64 * w)

    before : q * (64 * w) < n
    unfolding q
    before =
        let le : q * (64 * w) ≤ n = div-mul-le_self n (64 * w) in
        lt_of_le-ne le (λ e. off (ap (λ (z : ℕ). z % w) (sym e ∙ sym (mul_assoc q 64 w)) ∙ mul-mod_left (q * 64) w))

    after : n < q * (64 * w) + 64 * w
    unfolding q
    after = lt-div-mul-add (mul-pos (lit≤ tt) w0)

    reached : q * (64 * C) ≤ h
    reached =
        let a : (q * (64 * w) + 1) * C ≤ n * C = mul-le-mul_right C (omega (arith, before)) in
        let b : (q * (64 * w) + 1) * C ≡ q * (64 * w) * C + 1 * C = add-mul (q * (64 * w)) 1 C in
        let d : q * (64 * w) * C ≡ q * (64 * C) * w = simp (mul_assoc, mul_comm, mul_left_comm) in
        le_of_mul-le-mul_right {k = w} (omega (arith, little)) w0

    not-reached : h < (q + 1) * (64 * C)
    not-reached =
        let a : (n + 1) * C ≤ (q * (64 * w) + 64 * w) * C = mul-le-mul_right C (omega (arith, after)) in
        let b : (n + 1) * C ≡ n * C + 1 * C = add-mul n 1 C in
        let d : (q * (64 * w) + 64 * w) * C ≡ (q + 1) * (64 * C) * w =
        ap (λ (z : ℕ). z * C) (sym (ap (λ (z : ℕ). q * (64 * w) + z) (one-mul (64 * w))) ∙ sym (add-mul q 1 (64 * w)))
        ∙ simp (mul_assoc, mul_comm, mul_left_comm) in
        lt_of_mul-lt-mul_right w (omega (arith, little))

    pub same_whole : h / (64 * C) ≡ n / (64 * w)
    unfolding q
    same_whole = div-eq_of_lt-le (64 * C) reached not-reached

-- ---- Segment: its doubles

abbrev per64 : ℕ
per64 = 2 ^ 1068

abbrev error : ℕ
error = 2 ^ 1041

one-is : one ≡ 64 * per64
one-is = pow-add 2 6 1068

per64-is : per64 ≡ 134217728 * error
per64-is = pow-add 2 27 1041

module _ (u0 time0 u1 time1 u : Float) (v0 t0 v1 t1 v : ℕ) (ends : Ends u0 time0 u1 time1 v0 t0 v1 t1) (at : Is u v draw_parts)
    (from : v0 ≤ v) (to : v ≤ v1) where
  abbrev w : ℕ
  w = v1 - v0

  abbrev P : ℕ
  P = (t1 - t0) * (v - v0)

  abbrev n : ℕ
  n = t0 * w + P

  abbrev quotient : Float
  quotient = div binary64 (mul binary64 (sub binary64 time1 time0) (sub binary64 u u0)) (sub binary64 u1 u0)

  w_pos : 0 < w
  w_pos = omega (arith, ends.rising)

  w-most : w ≤ draw_parts
  w-most = omega (arith, ends.last)

  rise : Is (sub binary64 time1 time0) (t1 - t0) (2 ^ 6)
  rise = exact-sub 6 (lit≤ tt) time1 time0 t1 t0 max_time_parts ends.not-falling ends.most (lit< tt) ends.to-time ends.from-time

  run : Is (sub binary64 u u0) (v - v0) (2 ^ 16)
  run = exact-sub 16 (lit≤ tt) u u0 v v0 draw_parts from (omega (arith, ends.last)) (lit< tt) at ends.from-u

  width : Is (sub binary64 u1 u0) w (2 ^ 16)
  width = exact-sub 16 (lit≤ tt) u1 u0 v1 v0 draw_parts (omega (arith, ends.rising)) ends.last (lit< tt) ends.to-u ends.from-u

  P-line : P ≤ (t1 - t0) * w
  P-line = mul-le-mul_left (t1 - t0) (omega arith)

  P-most : P ≤ max_time_parts * w
  P-most = le_trans P-line (mul-le-mul_right w (omega (arith, ends.most)))

  rise-run : Is (mul binary64 (sub binary64 time1 time0) (sub binary64 u u0)) P (2 ^ 22)
  rise-run =
      exact-mul (sub binary64 time1 time0) (sub binary64 u u0) (t1 - t0) (v - v0) 6 16 (lit≤ tt)
      (few P (max_time_parts * draw_parts) (le_trans P-most (mul-le-mul_left max_time_parts w-most)) (lit< tt)) rise run

  quotient_rounds : Rounds quotient P (64 * w)
  quotient_rounds =
      rounds_rescaled quotient (P * 2 ^ 16) (2 ^ 22 * w) P (64 * w) (mul-pos (pow_pos 22) w_pos) (mul-pos (pow_pos 6) w_pos)
      (mul_assoc P 65536 (64 * w) ∙ ap (λ (z : ℕ). P * z) (sym (mul_assoc 65536 64 w)))
      (div_rounds (mul binary64 (sub binary64 time1 time0) (sub binary64 u u0)) (sub binary64 u1 u0) P (2 ^ 22) w (2 ^ 16) (pow_pos 22)
      (pow_pos 16) w_pos rise-run width)

  quotient-off : Off quotient P (64 * w)
  quotient-off = rounds-off quotient P (64 * w) (mul-pos (pow_pos 6) w_pos) (omega (arith, P-most, w_pos)) quotient_rounds

  g : ℕ
  g = quotient-off.units

  g-below : 2 * (g * (64 * w)) ≤ 2 * (P * (64 * per64)) + error * (64 * w)
  unfolding g
  g-below = rw one-is at quotient-off.below

  g-above : 2 * (P * (64 * per64)) ≤ 2 * (g * (64 * w)) + error * (64 * w)
  unfolding g
  g-above = rw one-is at quotient-off.above

  time0-units : Is time0 (t0 * per64) one
  time0-units =
      is_rescaled time0 t0 64 (t0 * per64) one (pow_pos 6) (mul_assoc t0 per64 64 ∙ ap (λ (z : ℕ). t0 * z) (mul_comm per64 64 ∙ sym one-is))
      ends.from-time

  line-off : Off (line_double u0 time0 u1 time1 u) (t0 * per64 + g) one
  unfolding line_double g
  line-off =
      rounds-off (line_double u0 time0 u1 time1 u) (t0 * per64 + g) one (pow_pos 1074)
      (subst (λ (z : ℕ). t0 * per64 + g < 1048576 * z) (sym one-is)
      (sum-small per64 error w P t0 t1 g 0 per64-is (pow_pos 1041) w_pos ends.not-falling ends.most P-line g-below g-above))
      (add_rounds one (pow_pos 1074) time0 quotient (t0 * per64) g time0-units quotient-off.is)

  h : ℕ
  h = line-off.units

  h-below : h * w ≤ n * per64 + error * w
  unfolding h
  h-below =
      line-below per64 error w P t0 t1 g h per64-is (pow_pos 1041) w_pos ends.not-falling ends.most P-line g-below g-above one
      (pow_pos 1074) line-off.below line-off.above

  h-above : n * per64 ≤ h * w + error * w
  unfolding h
  h-above =
      line-above per64 error w P t0 t1 g h per64-is (pow_pos 1041) w_pos ends.not-falling ends.most P-line g-below g-above one
      (pow_pos 1074) line-off.below line-off.above

  line-units : Is (line_double u0 time0 u1 time1 u) h (64 * per64)
  unfolding h
  line-units = rw one-is at line-off.is

  line-near : Near (line_double u0 time0 u1 time1 u) n (64 * w)
  line-near =
      record {
        over = h;
        under = 64 * per64;
        positive = mul-pos (pow_pos 6) (pow_pos 1068);
        is = line-units;
        not-above = not-above per64 error w n h per64-is (pow_pos 1041) w_pos w-most h-below h-above;
        not-below = not-below per64 error w n h per64-is (pow_pos 1041) w_pos w-most h-below h-above;
      }

  n-most : n ≤ max_time_parts * w
  n-most =
      let join : t0 * w + (t1 - t0) * w ≡ t1 * w = sym (add-mul t0 (t1 - t0) w)
      ∙ ap (λ (z : ℕ). z * w) (omega (arith, ends.not-falling)) in
      let top : t1 * w ≤ max_time_parts * w = mul-le-mul_right w ends.most in
      omega (arith, P-line)

  line_small : n / (64 * w) < 18446744073709551616
  line_small = (div-lt_iff_lt-mul (mul-pos (pow_pos 6) w_pos)).1 (omega (arith, n-most, w_pos))

  -- on a multiple of 1 / 64 nothing is rounded
  on-part : P % w ≡ 0 → whole_part_lem (line_double u0 time0 u1 time1 u) ≡ n / (64 * w)
  unfolding line_double
  on-part e =
      let j = P / w in
      let jw : j * w ≡ P = omega (arith, div-add-mod' P w) in
      let small : j ≤ max_time_parts = le_of_mul-le-mul_right {k = w} (le_trans (le_of_eq jw) P-most) w_pos in
      let is : Is quotient j (2 ^ 6) =
      rounds_exact quotient j 6 (few j max_time_parts small (lit< tt)) (lit≤ tt)
      (rounds_rescaled quotient P (64 * w) j 64 (mul-pos (pow_pos 6) w_pos) (pow_pos 6)
      (ap (λ (z : ℕ). z * 64) (sym jw) ∙ mul_assoc j w 64 ∙ ap (λ (z : ℕ). j * z) (mul_comm w 64)) quotient_rounds) in
      let sum : Is (add binary64 time0 quotient) (t0 + j) (2 ^ 6) =
      exact-add 6 (lit≤ tt) time0 quotient t0 j
      (few (t0 + j) (max_time_parts + max_time_parts) (omega (arith, ends.not-falling, ends.most)) (lit< tt)) ends.from-time is in
      let nw : n ≡ (t0 + j) * w = sym (add-mul t0 j w ∙ ap (λ (z : ℕ). t0 * w + z) jw) in
      let same : (t0 + j) / 64 ≡ n / (64 * w) =
      div_same (t0 + j) 64 n (64 * w) (pow_pos 6) (mul-pos (pow_pos 6) w_pos)
      (sym (ap (λ (z : ℕ). z * 64) nw ∙ mul_assoc (t0 + j) w 64 ∙ ap (λ (z : ℕ). (t0 + j) * z) (mul_comm w 64))) in
      whole_is (t0 + j) 64 (pow_pos 6) (subst (λ (z : ℕ). z < 18446744073709551616) (sym same) line_small) _ sum ∙ same

  off_part : (P % w ≡ 0 → ⊥) → whole_part_lem (line_double u0 time0 u1 time1 u) ≡ n / (64 * w)
  off_part e =
      let same =
      same_whole per64 error w n h per64-is (pow_pos 1041) w_pos w-most h-below h-above (λ z. e (cc (mul-add-mod_self_right t0 w P, z))) in
      whole_is h _ (mul-pos (pow_pos 6) (pow_pos 1068)) (rw same line_small)
      _ line-units
      ∙ same

  line-whole : whole_part_lem (line_double u0 time0 u1 time1 u) ≡ n / (64 * w)
  line-whole = go (eqb (P % w) 0) refl
    where
      go : (t : Bool) → eqb (P % w) 0 ≡ t → whole_part_lem (line_double u0 time0 u1 time1 u) ≡ n / (64 * w)
      go true e = on-part (eqb-true _ _ e)
      go false e = off_part (eqb-false _ _ e)

  -- so it lies on the line, within that, and its whole part is the line's
  pub line_on : OnLine (line_double u0 time0 u1 time1 u) (line_over v0 t0 v1 t1 v) (line_under v0 v1)
  line_on =
      record {
        near = line-near;
        low = rw line-whole (omega (arith, div-mul-le_self n (64 * w)));
        high = rw line-whole (omega (arith, add-mul (n / (64 * w)) 1 (64 * w), lt-div-mul-add {a = n} (mul-pos (pow_pos 6) w_pos)));
        whole = line-whole;
      }
