-- Taking the first of REL follows the machine.
use Rattle.machine.specs.All.{ℕ, suc, ◌≤◌, ◌<◌, ◌≡◌, refl, sym, ap, subst, List, ◌∷◌, Option, none, some, arith, lt-ltb, le-ltb, length, drop, Transaction, State, set_rel, set_moving}
use Rattle.machine.specs.Turn as Machine
use Rattle.rows_laws.specs.All.{rel, remove_at, first, take_first, transaction_at, update, Shows}
use Rattle.rows_laws.proofs.{Buffer.RowData.transaction-kept, Chains.TakeFirst.Head, Chains.TakeFirst.nobody, Chains.TakeFirst.somebody, Laws.head-shows, Laws.take-shows, Laws.Takes}
use Rattle.state.specs.All.{put_moving, Rows, rows_of, lists_in, lists_of, Stands}
use Rattle.state.proofs.ListsOf.{lists-set-rel}
use Rattle.clock.specs.{ready_scalars, take_ready}
use Rattle.clock.proofs.Population.{listing-ready}

-- nobody is on REL: nothing changes
ready-none : (r : Rows) → 1024 ≤ first r.work rel → take_ready r ≡ r
unfolding take_ready ready_scalars rows_of remove_at
ready-none r h = rw (le-ltb (first r.work rel) 1024 h)

ready-some : (r : Rows) → first r.work rel < 1024
    → take_ready r ≡ rows_of (put_moving (first r.work rel) r.scalars) (take_first r.work rel) r.tally
unfolding take_ready ready_scalars
ready-some r h = rw (lt-ltb (first r.work rel) 1024 h)

module _ (tape_bytes : List ℕ) (r : Rows) (s : State) (h : Stands tape_bytes r none s) where
  abbrev w : List ℕ
  w = r.work

  abbrev k : ℕ
  k = first w rel

  -- the first of REL is taken
  taken : (m : List Transaction) → s.rel ≡ transaction_at w k ∷ m → k < 1024
      → Stands tape_bytes (take_ready r) (some (transaction_at w k)) (set_moving (some (transaction_at w k)) (set_rel m s))
  unfolding lists_in rows_of
  taken m e n =
      let t : Transaction = transaction_at w k in
      let c : Takes w (take_first w rel) k (update rel (drop 1 (lists_of s rel)) (lists_of s)) s.fel =
      take-shows w (lists_of s) s.fel h.listing.shows rel (omega arith) n in
      let tail : drop 1 s.rel ≡ m = ap (drop 1) e in
      let len : length s.rel ≡ suc (length m) = ap length e in
      subst (λ (x : Rows). Stands tape_bytes x (some (transaction_at w k)) (set_moving (some (transaction_at w k)) (set_rel m s)))
      (sym (ready-some r n))
      (record {
        listing =
            listing-ready w (take_first w rel) r.scalars.moving k none (some (transaction_at w k)) s
            (set_moving (some (transaction_at w k)) (set_rel m s)) h.listing m s.fel
            (subst (λ (l : List Transaction). Shows (take_first w rel) (update rel l (lists_of s)) s.fel) tail c.shows)
            (omega (arith, c.count, len)) (λ q hq. lists-set-rel s m q hq) refl refl
            (c.off, transaction-kept w (take_first w rel) k c.same);
        tallying = h.tallying;
        counting = h.counting;
      })

  -- the first of REL is taken, as the machine takes it
  pub ready-stands : s.moving ≡ none → Stands tape_bytes (take_ready r) (Machine.take_first s.rel s).moving (Machine.take_first s.rel s)
  unfolding Machine.take_first lists_in
  ready-stands none_moves = go (head-shows w _ _ h.listing.shows rel (omega arith))
    where
      Goal : List Transaction → Type 0
      Goal l = Stands tape_bytes (take_ready r) (Machine.take_first l s).moving (Machine.take_first l s)

      go : Head w rel (transaction_at w) s.rel → Goal s.rel
      go (nobody e n) =
          subst Goal (sym e)
          (rw (ready-none r n) (subst (λ (o : Option Transaction). Stands tape_bytes r o s) (sym none_moves) h))
      go (somebody m e n) = rw e (taken m e n)
