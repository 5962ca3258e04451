-- Document 02, item 11: a row goes from the FEL to a list, and from the head of a list to the FEL.
use Rattle.machine.specs.All.{ℕ, zero, suc, ◌+◌, ◌≤◌, ◌<◌, ◌≡◌, refl, sym, ap, ◌∙◌, subst, Bool, true, false, cond, not, true≢false, List, [], ◌∷◌, ◌++◌, map, arith, ℕ_discrete, lt-ltb, ltb-true, ltb-false, eq-eqb, eqb-true, eqb-false, not-false, ltb, eqb, length, drop, Transaction, Event, precedes, earlier, insert}
use Rattle.rows_laws.specs.All.{list_count, number_field, slot, place, holder_cell, fel, free, load, store, read, priority_of, sooner, put, first, take_first, schedule, cancel, loses, sooner_row, loser_of, loser_from, loser, keep_holder, is_holder, loser_at, find_loser, transaction_at, event_at, occurs, Heaped, Listed, Holds, update, All, Sorted, Strict, loose, Shows}
use Rattle.rows_laws.proofs as our
use our.Counting.Occurs.{same_refl, same_pos, occurs-append, occurs-cons}
use our.Order.SortedInsertion.{not-both, before-none, all_append, front}
use our.Steps.{loser-end, loser-stop, loser-next, Holder, holder-of}
use our.{Chains.StructuralLaw.row_of, Placing.Spot.short, Placing.Spot.front_self, Counting.Sums.sum_ext, Buffer.RowData.same_row, Life.LooseRowsStay.around_trans, Life.LooseRowsStay.around-steady, Placing.Put.put-placed, Chains.TakeFirst.rows-first, Life.Making.Written, Heap.Scheduling.sooner-order, Heap.Scheduling.schedule-placed, Heap.FutureEvents.all-at, Heap.FutureEvents.irreflexive}
use our.Buffer.HintsAndHolders.{aside-below, aside-shown, holder_aside}
use our.Laws.{Fresh, Wakes, Takes, Puts, cancels, take-shows, put-shows, schedule-shows}
use Rattle.rows_laws.specs.Layout.{link}
use Rattle.rows_laws.specs.Shows.{Loose}

-- ---- The holder among later events

-- the FEL has nobody of this number and a lower priority and j is no row, or row j is the first
pub data Loser (w : List ℕ) (n p : ℕ) (l : List ℕ) (j : ℕ) : Type 0 where
  nobody : All (λ k. loses w n p k ≡ false) l → 1024 ≤ j → Loser w n p l j
  somebody : (a b : List ℕ) (k : ℕ) → l ≡ a ++ k ∷ b → j ≡ k → k < 1024 → All (λ k. loses w n p k ≡ false) a → loses w n p k ≡ true
      → Loser w n p l j

-- "a holder of lower priority": of this number, and its priority below
pub loses-is : (w : List ℕ) (n p k : ℕ) → loses w n p k ≡ cond (eqb (event_at w k).who.number n) (ltb (event_at w k).who.priority p) false
unfolding loses event_at transaction_at
loses-is w n p k = refl

loses-own : (w : List ℕ) (n p k : ℕ) → loses w n p k ≡ true → read w number_field k ≡ n
unfolding loses
loses-own w n p k e = go (eqb (read w number_field k) n) refl e
  where
    go : (b : Bool) → eqb (read w number_field k) n ≡ b → cond b (ltb (priority_of w k) p) false ≡ true → read w number_field k ≡ n
    go true f e = eqb-true _ _ f
    go false f e = absurd (true≢false (sym e))

-- each of the first part of a list stands before those of the second
part-before : (r : ℕ → ℕ → Bool) (a b : List ℕ) (k : ℕ) → Strict r (a ++ k ∷ b) → All (λ x. r x k ≡ true) a
unfolding Sorted All
part-before r [] b k h = tt
part-before r (x ∷ a) b k h =
    (not-false (r x k) (all_append (λ y. not (r x y) ≡ false) a (k ∷ b) h.0).1.0, part-before r a b k h.1)

module _ (w : List ℕ) (n p : ℕ) (l : List ℕ) (one : Listed w fel l) (strict : Strict (sooner w) l) where
  heap : Heaped w (length l)
  heap = one.heap refl

  -- row x is on the FEL
  on : (x : ℕ) → 1 ≤ occurs x l → (x < 1024) × (load w (place x) ≡ fel)
  on x m = let row : x < 1024 = one.row x m in (row, same_pos (load w (place x)) fel (omega (arith, one.once x row)))

  -- row j is the first such row in the slots below i, or there is none
  data Best (j i : ℕ) : Type 0 where
    missed : j ≡ 1024 → ((h : ℕ) → h < i → loses w n p (load w (slot h)) ≡ false) → Best j i
    met : j < 1024 → load w (place j) ≡ fel → loses w n p j ≡ true
        → ((h : ℕ) → h < i → loses w n p (load w (slot h)) ≡ true → sooner w (load w (slot h)) j ≡ false) → Best j i

  loser_of-not : (j k : ℕ) → k < 1024 → loses w n p k ≡ false → loser_of w n p j k ≡ j
  unfolding loser_of
  loser_of-not j k h e = rw (lt-ltb k 1024 h, e)

  loser_of-first : (k : ℕ) → k < 1024 → loses w n p k ≡ true → loser_of w n p 1024 k ≡ k
  unfolding loser_of sooner_row
  loser_of-first k h e = rw (lt-ltb k 1024 h, e)

  loser_of-both : (j k : ℕ) → k < 1024 → j < 1024 → loses w n p k ≡ true → loser_of w n p j k ≡ cond (sooner w k j) k j
  unfolding loser_of sooner_row
  loser_of-both j k h g e = rw (lt-ltb k 1024 h, e, lt-ltb j 1024 g)

  -- one slot more
  module _ (j i : ℕ) (hi : i < length l) where
    abbrev k : ℕ
    k = load w (slot i)

    row : k < 1024
    row = (heap.seat i hi).0

    -- slots below i + 1 are those below i, and i
    last : (P : ℕ → Type 0) → P i → ((h : ℕ) → h < i → P h) → (h : ℕ) → h < i + 1 → P h
    last P now before h hh = go (ℕ_discrete h i)
      where
        go : Dec (h ≡ i) → P h
        go (yes e) = subst P (sym e) now
        go (no d) = before h (omega arith)

    passes : loses w n p k ≡ false → Best j i → Best (loser_of w n p j k) (i + 1)
    passes e (missed q h) = rw (loser_of-not j k row e) (missed q (last (λ x. loses w n p (load w (slot x)) ≡ false) e h))
    passes e (met r at t h) =
        rw (loser_of-not j k row e)
        (met r at t
        (last (λ x. loses w n p (load w (slot x)) ≡ true → sooner w (load w (slot x)) j ≡ false) (λ f. not-both (loses w n p k) f e) h))

    takes-it : loses w n p k ≡ true → Best j i → Best (loser_of w n p j k) (i + 1)
    takes-it e (missed q h) =
        rw (q, loser_of-first k row e)
        (met row (heap.seat i hi).1 e
        (last (λ x. loses w n p (load w (slot x)) ≡ true → sooner w (load w (slot x)) k ≡ false) (λ f. irreflexive w (length l) heap k)
        (λ x hx f. not-both (loses w n p (load w (slot x))) f (h x hx))))
    takes-it e (met r at t h) = rw (loser_of-both j k row r e) (go (sooner w k j) refl)
      where
        go : (b : Bool) → sooner w k j ≡ b → Best (cond b k j) (i + 1)
        go true f =
            met row (heap.seat i hi).1 e
            (last (λ x. loses w n p (load w (slot x)) ≡ true → sooner w (load w (slot x)) k ≡ false) (λ g. irreflexive w (length l) heap k)
            (λ x hx g. before-none (sooner w) (sooner-order w) (load w (slot x)) j k f (h x hx g)))
        go false f = met r at t (last (λ x. loses w n p (load w (slot x)) ≡ true → sooner w (load w (slot x)) j ≡ false) (λ g. f) h)

    more : Best j i → Best (loser_of w n p j k) (i + 1)
    more best = go (loses w n p k) refl
      where
        go : (b : Bool) → loses w n p k ≡ b → Best (loser_of w n p j k) (i + 1)
        go true e = takes-it e best
        go false e = passes e best

  -- of all slots
  fewer : (j i : ℕ) → length l ≤ i → Best j i → Best j (length l)
  fewer j i le (missed q h) = missed q (λ x hx. h x (omega arith))
  fewer j i le (met r at t h) = met r at t (λ x hx. h x (omega arith))

  scan : (m j i : ℕ) → length l ≤ m + i → Best j i → Best (loser_from m w n p j i) (length l)
  scan zero j i le best = rw (loser-end w n p j i 0 refl) (fewer j i (omega arith) best)
  scan (suc m) j i le best = go (ltb i (length l)) refl (scan m (loser_of w n p j (load w (slot i))) (i + 1) (omega arith))
    where
      go : (t : Bool) → ltb i (length l) ≡ t
          →
          (Best (loser_of w n p j (load w (slot i))) (i + 1) → Best (loser_from m w n p (loser_of w n p j (load w (slot i))) (i + 1))
          (length l))
          → Best (loser_from (suc m) w n p j i) (length l)
      go false e rest =
          rw (loser-stop w n p j i (suc m) (omega (arith, heap.many, ltb-false i (length l) e)))
          (fewer j i (ltb-false i (length l) e) best)
      go true e rest =
          let hi : i < length l = ltb-true i (length l) e in
          rw (loser-next w n p j i (suc m) m refl (omega (arith, heap.many))) (rest (more j i hi best))

  -- slots and rows
  all-rows : (P : ℕ → Type 0) → ((i : ℕ) → i < length l → P (load w (slot i))) → (x : ℕ) → 1 ≤ occurs x l → P x
  all-rows P h x m =
      let at = on x m in
      let s = heap.seated x at.0 at.1 in
      subst P s.1 (h (load w (link x)) s.0)

  all-of : (P : ℕ → Type 0) (m : List ℕ) → ((x : ℕ) → 1 ≤ occurs x m → P x) → All P m
  unfolding All
  all-of P [] h = tt
  all-of P (x ∷ m) h =
      (h x (omega (arith, occurs-cons x x m, same_refl x x refl)), all-of P m (λ y q. h y (omega (arith, occurs-cons y x m))))

  loser-of : Loser w n p l (loser w n p)
  unfolding loser
  loser-of = go (scan 1024 1024 0 (omega (arith, short w fel l one)) (missed refl (λ h hh. absurd (omega arith))))
    where
      go : Best (loser w n p) (length l) → Loser w n p l (loser w n p)
      go (missed q h) = nobody (all-of (λ k. loses w n p k ≡ false) l (all-rows (λ k. loses w n p k ≡ false) h)) (omega (arith, q))
      go (met r at t h) =
          let j : ℕ = loser w n p in
          let parts = front_self j l (omega (arith, one.once j r, same_refl (load w (place j)) fel at)) in
          let a : List ℕ = front eqb j l in
          let before : All (λ x. sooner w x j ≡ true) a =
          part-before (sooner w) a parts.0 j (subst (Strict (sooner w)) parts.1 strict) in
          somebody a parts.0 j parts.1 refl r
          (all-of (λ k. loses w n p k ≡ false) a (λ x m. apart x j (all-at (λ y. sooner w y j ≡ true) x a before m)
          (all-rows (λ y. loses w n p y ≡ true → sooner w y j ≡ false) h x
          (omega (arith, ap (occurs x) parts.1, occurs-append x a (j ∷ parts.0))))))
          t
        where
          apart : (x j : ℕ) → sooner w x j ≡ true → (loses w n p x ≡ true → sooner w x j ≡ false) → loses w n p x ≡ false
          apart x j e f = pick (loses w n p x) refl
            where
              pick : (b : Bool) → loses w n p x ≡ b → loses w n p x ≡ false
              pick true q = not-both (sooner w x j) e (f q)
              pick false q = q

  -- ---- By the row that is kept for a server

  -- row k has the number, and no other of the FEL
  module _ (k : ℕ) (row : k < 1024) (own : read w number_field k ≡ n)
      (alone : (x : ℕ) → x < 1024 → load w (place x) ≡ fel → read w number_field x ≡ n → x ≡ k) where
    only : (x : ℕ) → 1 ≤ occurs x l → loses w n p x ≡ true → x ≡ k
    only x m e = alone x (on x m).0 (on x m).1 (loses-own w n p x e)

    none_but : (m : List ℕ) → ((x : ℕ) → 1 ≤ occurs x m → 1 ≤ occurs x l) → ((x : ℕ) → 1 ≤ occurs x m → x ≡ k → loses w n p k ≡ false)
        → All (λ x. loses w n p x ≡ false) m
    none_but m part h = all-of (λ x. loses w n p x ≡ false) m (λ x o. pick x o (loses w n p x) refl)
      where
        pick : (x : ℕ) → 1 ≤ occurs x m → (b : Bool) → loses w n p x ≡ b → loses w n p x ≡ false
        pick x o false e = e
        pick x o true e = let q : x ≡ k = only x (part x o) e in not-both (loses w n p k) (ap (loses w n p) (sym q) ∙ e) (h x o q)

    loses-below : loses w n p k ≡ ltb (priority_of w k) p
    unfolding loses
    loses-below = rw (eq-eqb (read w number_field k) n own)

    at_of : Loser w n p l (loser_at w p k)
    unfolding loser_at
    at_of = go (eqb (load w (place k)) fel) (ltb (priority_of w k) p) refl refl
      where
        go : (a b : Bool) → eqb (load w (place k)) fel ≡ a → ltb (priority_of w k) p ≡ b → Loser w n p l (cond a (cond b k 1024) 1024)
        go false b e f =
            nobody (none_but l (λ x o. o) (λ x o q. absurd (eqb-false _ _ e (ap (λ y. load w (place y)) (sym q) ∙ (on x o).1))))
            (omega arith)
        go true false e f = nobody (none_but l (λ x o. o) (λ x o q. loses-below ∙ f)) (omega arith)
        go true true e f =
            let one-there : occurs k l ≡ 1 = one.once k row ∙ same_refl (load w (place k)) fel (eqb-true _ _ e) in
            let parts = front_self k l (omega (arith, one-there)) in
            let a : List ℕ = front eqb k l in
            let twice : (x : ℕ) → occurs x l ≡ occurs x a + occurs x (k ∷ parts.0) =
            λ x. ap (occurs x) parts.1 ∙ occurs-append x a (k ∷ parts.0) in
            somebody a parts.0 k parts.1 refl row
            (none_but a (λ x o. omega (arith, twice x))
            (λ x o q. absurd (omega (arith, ap (λ y. occurs y a) q, twice k, occurs-cons k k parts.0, same_refl k k refl))))
            (loses-below ∙ f)

  abbrev pub Finds : Type 0
  Finds =
      (moving v : ℕ) →
      (Holder w n moving (load w (holder_cell v)) → (x : ℕ) → x < 1024 → load w (place x) ≡ fel → read w number_field x ≡ n → x ≡ load w
      (holder_cell v))
      → Loser w n p l (find_loser w n p moving v)

  find-by : Loser w n p l (loser w n p) → Finds
  unfolding find_loser
  find-by scanned moving v alone = go (is_holder w n moving (load w (holder_cell v))) refl
    where
      go : (b : Bool) → is_holder w n moving (load w (holder_cell v)) ≡ b
          → Loser w n p l (cond b (loser_at w p (load w (holder_cell v))) (loser w n p))
      go false e = scanned
      go true e =
          let h : Holder w n moving (load w (holder_cell v)) = holder-of w n moving (load w (holder_cell v)) e in
          at_of (load w (holder_cell v)) h.row h.own (alone h)

  pub find_of : Finds
  find_of = find-by loser-of

-- no list reads the row that is kept
pub keep-holder-wakes : (w : List ℕ) (T : ℕ → List Transaction) (E : List Event) → Shows w T E → (v k : ℕ) → Wakes w (keep_holder w v k) T E
unfolding keep_holder
keep-holder-wakes w T E s v k =
    record {
      shows =
          record { rows = s.rows; shown = aside-shown w (holder_cell v) k (holder_aside v) s.rows T E s.shown; ordered = s.ordered };
      steady =
          record {
            loose = λ m l. record { row = l.row; off = kept m l.row ∙ l.off };
            same =
                λ m l.
                same_row w (store w (holder_cell v) k) m l.row (λ i hi. aside-below w (holder_cell v) k (holder_aside v) i (omega arith));
            count = unfold loose in sum_ext 1024 _ _ (λ m hm. ap (λ (x : ℕ). cond (ltb x list_count) 0 1) (kept m hm));
            frees = λ m hm. ap (λ (x : ℕ). eqb x free) (kept m hm);
          };
    }
  where
    kept : (m : ℕ) → m < 1024 → load (store w (holder_cell v) k) (place m) ≡ load w (place m)
    kept m hm = aside-below w (holder_cell v) k (holder_aside v) (place m) (omega arith)

-- ---- A row that was taken from a list has data written and comes onto one

module _ (w w₁ v : List ℕ) (k : ℕ) (U : ℕ → List Transaction) (F : List Event) (was : load w (place k) < free)
    (taken : Takes w w₁ k U F) (written : Written w₁ v k) where
  written-shows : Shows v U F
  written-shows =
      record {
        rows = taken.shows.rows;
        shown = written.shown taken.shows.rows U F taken.off taken.shows.shown;
        ordered = taken.shows.ordered;
      }

  again : (u : List ℕ) (T : ℕ → List Transaction) (E : List Event) → load u (place k) < free → Puts v u k T E → Wakes w u T E
  again u T E there puts =
      record {
        shows = puts.shows;
        steady =
            around-steady w u k taken.off.row was there
            (around_trans w w₁ u k taken.around (around_trans w₁ v u k written.around puts.around));
      }

module _ (w : List ℕ) (T : ℕ → List Transaction) (E : List Event) (s : Shows w T E) where
  abbrev L : ℕ → List ℕ
  L = s.rows

  h : Holds w L
  h = s.shown.holds

  -- where the rows of a list stand
  placed : (p k : ℕ) (a b : List ℕ) → p < list_count → L p ≡ a ++ k ∷ b → k < 1024 → load w (place k) ≡ p
  placed p k a b hp was hk =
      (row_of w p a (k ∷ b) (rw was at (h.listed p hp)) k
      (omega (arith, occurs-append k a (k ∷ b), occurs-cons k k b, same_refl k k refl))).1

  -- ---- From the FEL to a list

  module _ (k : ℕ) (a b : List ℕ) (hk : k < 1024) (was : L fel ≡ a ++ k ∷ b) where
    abbrev w₁ : List ℕ
    w₁ = cancel w k

    abbrev left : List Event
    left = map (event_at w) (a ++ b)

    pub taken-later : Takes w w₁ k T left
    taken-later = cancels w T E s k a b hk was

    -- PREEMPT: a row that left the FEL stands on list p by its priority
    pub interrupt-shows : (v : List ℕ) → Written w₁ v k → (p : ℕ) → p < fel → Sorted precedes (T p)
        → Wakes w (put v p k) (update p (insert precedes (transaction_at v k) (T p)) T) left
    interrupt-shows v written p hp sorted =
        let there : load w (place k) < free = omega (arith, placed fel k a b (omega arith) was hk) in
        let shows : Shows v T left = written-shows w w₁ v k T left there taken-later written in
        let off : Loose v k = written.loose taken-later.off in
        again w w₁ v k T left there taken-later written (put v p k) _ left
        (omega (arith, put-placed v shows.rows shows.shown.holds p k (omega arith) (λ e. omega arith) off))
        (put-shows v T left shows k off p hp sorted)

  -- ---- From the head of a list to the FEL

  module _ (p : ℕ) (hp : p < fel) (row : first w p < 1024) where
    abbrev j : ℕ
    j = first w p

    abbrev without : List ℕ
    without = take_first w p

    -- RETURN: the first of list p goes back to the FEL with the time that it was given
    pub resume-shows : (v : List ℕ) → Written without v j → Fresh (transaction_at v j) E
        → Wakes w (schedule v j) (update p (drop 1 (T p)) T) (insert earlier (event_at v j) E)
    resume-shows v written fresh =
        let r = rows-first w L T E s.shown p (omega arith) (λ e. omega arith) row in
        let there : load w (place j) < free = omega (arith, placed p j [] r.0 (omega arith) r.1 row) in
        let taken : Takes w without j (update p (drop 1 (T p)) T) E = take-shows w T E s p hp row in
        let shows : Shows v (update p (drop 1 (T p)) T) E = written-shows w without v j (update p (drop 1 (T p)) T) E there taken written in
        let off : Loose v j = written.loose taken.off in
        again w without v j (update p (drop 1 (T p)) T) E there taken written (schedule v j) _ _
        (omega (arith, schedule-placed v shows.rows shows.shown.holds j off))
        (schedule-shows v (update p (drop 1 (T p)) T) E shows j off fresh)
