-- A change of REL and the FEL alone: how many rows stand on lists, and the relation to the state that has these lists.
use Rattle.machine.specs.All.{ℕ, zero, suc, ◌+◌, ◌-◌, ◌≤◌, ◌<◌, ◌≡◌, refl, ap, ◌≢◌, List, Option, arith, eqb-true, eqb-false, eq-eqb, ne_eqb, eqb, length, Transaction, Event, State, Bool, true, false}
use Rattle.rows_laws.specs.All.{rel, update, sum_to, loose, on_lists, Shows}
use Rattle.rows_laws.proofs.{Order.StayInOrder.shows_ext, Counting.Population.population}
use Rattle.state.specs.All.{lists_in, lists_of, Moving, Listing}

-- ---- Lengths summed over the lists

module _ (p : ℕ) (r : List Transaction) (T : ℕ → List Transaction) where
  abbrev old : ℕ → ℕ
  old q = length (T q)

  abbrev new : ℕ → ℕ
  new q = length (update p r T q)

  new-other : (q : ℕ) → q ≢ p → new q ≡ old q
  new-other q n = rw (ne_eqb q p n)

  new-here : new p ≡ length r
  new-here = rw (eq-eqb p p refl)

  sum_below : (n : ℕ) → n ≤ p → sum_to n new ≡ sum_to n old
  unfolding sum_to
  sum_below zero h = refl
  sum_below (suc n) h = omega (arith, sum_below n (omega arith), new-other n (λ e. omega arith))

  sum-update : (n : ℕ) → p < n → sum_to n new + length (T p) ≡ sum_to n old + length r
  unfolding sum_to
  sum-update zero h = absurd (omega arith)
  sum-update (suc n) h = go (eqb n p) refl (sum-update n)
    where
      go : (b : Bool) → eqb n p ≡ b → (p < n → sum_to n new + length (T p) ≡ sum_to n old + length r)
          → sum_to n new + new n + length (T p) ≡ sum_to n old + old n + length r
      go true e later =
          let is : n ≡ p = eqb-true n p e in
          omega (arith, sum_below n (omega arith), ap new is, new-here, ap old is)
      go false e later =
          let ne : n ≢ p = eqb-false n p e in
          omega (arith, later (omega arith), new-other n ne)

-- ---- REL and the FEL replaced

module _ (w w' : List ℕ) (k k' : ℕ) (o o' : Option Transaction) (s s' : State) (h : Listing w k o s) where
  -- the FEL gives to REL, and nobody is lost or made
  pub listing-ready : (r : List Transaction) (E : List Event) → Shows w' (update rel r (lists_of s)) E
      → loose w' + length r + length E ≡ loose w + length s.rel + length s.fel
      → ((q : ℕ) → q < 770 → update rel r (lists_of s) q ≡ lists_of s' q) → E ≡ s'.fel → s'.made - s'.ended ≡ s.made - s.ended
      → Moving w' k' o' → Listing w' k' o' s'
  unfolding on_lists lists_in
  listing-ready r E shows count lists future living moving =
      record {
        shows = shows_ext w' (update rel r (lists_of s)) (lists_of s') E s'.fel lists future shows;
        mover = moving;
        spare =
            omega (
              arith,
              h.spare,
              living,
              count,
              population w h.shows.rows (lists_of s) s.fel h.shows.shown,
              population w' shows.rows (update rel r (lists_of s)) E shows.shown,
              sum-update rel r (lists_of s) 770 (omega arith),
            );
      }
