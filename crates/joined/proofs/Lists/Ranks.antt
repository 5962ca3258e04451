-- Numbers by rank among those on a roll: the order and equality of such numbers, and one more on the roll.
use Rattle.machine.specs.All.{ℕ, zero, suc, ◌+◌, ◌≤◌, ◌<◌, ◌≡◌, refl, sym, ap, ◌∙◌, Bool, true, false, cond, true≢false, arith, ltb, eqb, ltb-true, ltb-false, lt-ltb, le-ltb, eqb-true, eqb-false, eq-eqb, ne_eqb, bit, up_to}
use Rattle.machine.proofs.Lists.Sums.{up_to_cong}
use Rattle.joined.proofs.Lists.Members.{strictly}

abbrev pub Roll : Type 0
Roll = ℕ → Bool

-- how many up to n are on it
unfoldable pub rank_in : Roll → ℕ → ℕ
rank_in r n = up_to n (λ k. bit (r k))

-- ---- Order

module _ (r : Roll) where
  pub rank_step : (n : ℕ) → rank_in r (suc n) ≡ rank_in r n + bit (r (suc n))
  unfolding rank_in up_to
  rank_step n = refl

  pub rank-zero : rank_in r 0 ≡ 0
  unfolding rank_in up_to
  rank-zero = refl

  pub rank_skip : (n : ℕ) → r (suc n) ≡ false → rank_in r (suc n) ≡ rank_in r n
  rank_skip n e = omega (arith, rank_step n, ap bit e)

  pub rank_mono : (x y : ℕ) → x ≤ y → rank_in r x ≤ rank_in r y
  rank_mono x zero h = rw (zero_of x h) (omega arith)
    where
      zero_of : (x : ℕ) → x ≤ 0 → x ≡ 0
      zero_of x h = omega arith
  rank_mono x (suc y) h = go (eqb x (suc y)) refl (rank_mono x y)
    where
      go : (b : Bool) → eqb x (suc y) ≡ b → (x ≤ y → rank_in r x ≤ rank_in r y) → rank_in r x ≤ rank_in r (suc y)
      go true e k = omega (arith, ap (rank_in r) (eqb-true x (suc y) e))
      go false e k =
          let less : x < suc y = strictly x (suc y) h (eqb-false _ _ e) in
          omega (arith, rank_step y, k (omega arith))

  pub rank_less : (x y : ℕ) → r y ≡ true → x < y → rank_in r x < rank_in r y
  rank_less x zero e h = absurd (omega arith)
  rank_less x (suc y) e h = omega (arith, rank_step y, ap bit e, rank_mono x y (omega arith))

  -- ranks of numbers that are on the roll compare as the numbers do
  pub rank-ltb : (x y : ℕ) → r x ≡ true → r y ≡ true → ltb (rank_in r x) (rank_in r y) ≡ ltb x y
  rank-ltb x y a b = go (ltb x y) refl
    where
      go : (c : Bool) → ltb x y ≡ c → ltb (rank_in r x) (rank_in r y) ≡ c
      go true e = lt-ltb _ _ (rank_less x y b (ltb-true _ _ e))
      go false e = le-ltb _ _ (other (eqb y x) refl)
        where
          other : (c : Bool) → eqb y x ≡ c → rank_in r y ≤ rank_in r x
          other true d = omega (arith, ap (rank_in r) (eqb-true y x d))
          other false d =
              let less : y < x = strictly y x (ltb-false x y e) (eqb-false y x d) in
              omega (arith, rank_less y x a less)

  -- on the roll, or none
  pub data Named (x : ℕ) : Type 0 where
    listed : r x ≡ true → Named x
    nobody : x ≡ 0 → Named x

  rank-apart : (x y : ℕ) → Named y → x < y → rank_in r x ≡ rank_in r y → ⊥
  rank-apart x y (listed e) h q = omega (arith, rank_less x y e h)
  rank-apart x y (nobody e) h q = omega arith

  pub rank-eqb : (x y : ℕ) → Named x → Named y → eqb (rank_in r x) (rank_in r y) ≡ eqb x y
  rank-eqb x y a b = go (eqb x y) refl
    where
      go : (c : Bool) → eqb x y ≡ c → eqb (rank_in r x) (rank_in r y) ≡ c
      go true e = eq-eqb _ _ (ap (rank_in r) (eqb-true _ _ e))
      go false e = ne_eqb _ _ (λ q. other (ltb x y) refl q)
        where
          other : (c : Bool) → ltb x y ≡ c → rank_in r x ≡ rank_in r y → ⊥
          other true d q = rank-apart x y b (ltb-true _ _ d) q
          other false d q =
              rank-apart y x a (strictly y x (ltb-false _ _ d) (λ s. eqb-false _ _ e (sym s))) (sym q)

-- ---- One more

-- n is on the roll, or not
abbrev pub noting : Roll → (n : ℕ) (own : Bool) → Roll
noting r n own = λ k. cond (eqb k n) own (r k)

-- nobody beyond n is on it
abbrev pub Upto : Roll → ℕ → Type 0
Upto r n = (k : ℕ) → n < k → r k ≡ false

module _ (r : Roll) (n : ℕ) (own : Bool) where
  pub noted : noting r (suc n) own (suc n) ≡ own
  noted = rw (eq-eqb (suc n) (suc n) refl)

  pub noting-below : (k : ℕ) → k ≤ n → noting r (suc n) own k ≡ r k
  noting-below k h = rw (ne_eqb k (suc n) (λ e. omega arith))

  -- a greater number on the roll moves no rank below it
  pub rank-noting : (k : ℕ) → k ≤ n → rank_in (noting r (suc n) own) k ≡ rank_in r k
  unfolding rank_in
  rank-noting k h = up_to_cong (λ i. bit (noting r (suc n) own i)) (λ i. bit (r i)) k (λ i a b. ap bit (noting-below i (omega arith)))

  pub rank-noted : rank_in (noting r (suc n) own) (suc n) ≡ rank_in r n + bit own
  rank-noted = rank_step (noting r (suc n) own) n ∙ both
    where
      both : rank_in (noting r (suc n) own) n + bit (noting r (suc n) own (suc n)) ≡ rank_in r n + bit own
      both = rw (rank-noting n (omega arith), noted) refl

  pub noting-upto : Upto r n → Upto (noting r (suc n) own) (suc n)
  noting-upto h k lt = rw (ne_eqb k (suc n) (λ e. omega arith)) (h k (omega arith))

-- who is on a roll is no further than the roll goes
pub listed-within : (r : Roll) (n x : ℕ) → Upto r n → r x ≡ true → x ≤ n
listed-within r n x h e = go (ltb n x) refl
  where
    go : (b : Bool) → ltb n x ≡ b → x ≤ n
    go true d = absurd (true≢false (sym e ∙ h x (ltb-true _ _ d)))
    go false d = ltb-false _ _ d
