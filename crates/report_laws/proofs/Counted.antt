-- The sums over the tally's counts of records are the numbers of records that the report counts.
use Rattle.machine.specs.All.{ℕ, zero, suc, ◌+◌, ◌≤◌, ◌<◌, arith, ◌≡◌, refl, sym, ◌∙◌, Bool, true, false, cond, List, [], ◌∷◌, length, get_or, those, Facts, facts, BlockModel, block_at, Logged, records_at, Each, up_to, InModel, ap₂}
use Rattle.state.specs.All.{at_block}
use Rattle.state.proofs.Tallied as Tallied
use Rattle.report_laws.specs.{names, share, total}

-- ---- How many at most

those-length : {A : Type 0} (p : A → Bool) (l : List A) → length (those p l) ≤ length l
unfolding those
those-length p [] = omega arith
those-length p (x ∷ l) = go (p x) (those-length p l)
  where
    go : (t : Bool) → length (those p l) ≤ length l → length (cond t (x ∷ those p l) (those p l)) ≤ suc (length l)
    go true h = omega arith
    go false h = omega arith

pub records-few : (m : BlockModel) (outcome : ℕ) (p : Facts → Bool) (l : List Logged) → records_at m outcome p l ≤ length l
unfolding records_at
records-few m outcome p l = those-length _ l

-- ---- The sums

module _ (m : BlockModel) (outcome : ℕ) (p : Facts → Bool) (records : List Logged) (tables tally : List ℕ)
    (first second third index base : ℕ)
    (named : (b : ℕ) → b < length m.blocks → names tables first second third index b ≡ p (facts (block_at m (suc b))))
    (counted : (b : ℕ) → b < length m.blocks → get_or tally (base + b) 0 ≡ at_block outcome (suc b) records) where
  abbrev shares : ℕ → ℕ
  shares b = Tallied.share m outcome p records b

  total-shares : (n : ℕ) → n ≤ length m.blocks → up_to n shares ≤ 18446744073709551615
      → total tables tally first second third index base n ≡ up_to n shares
  unfolding total up_to
  total-shares zero h most = refl
  total-shares (suc n) h most =
      let one : share tables tally first second third index base n ≡ shares (suc n) = step in
      omega (arith, total-shares n (omega arith) (omega arith))
    where
      step : share tables tally first second third index base n ≡ shares (suc n)
      step = unfold share in (ap₂ (λ (t : Bool) (x : ℕ). cond t x 0) (named n h) (counted n h))

  -- sums of the counts by block are the records with that outcome at such blocks
  pub total-records : Each (λ (r : Logged). InModel m r.entry) records → length records ≤ 100000001 →
      total tables tally first second third index base (length m.blocks) ≡ records_at m outcome p records
  total-records inside few =
      let e : records_at m outcome p records ≡ up_to (length m.blocks) shares = Tallied.records-tallied m outcome p records inside in
      total-shares (length m.blocks) (omega arith) (omega (arith, records-few m outcome p records)) ∙ sym e
