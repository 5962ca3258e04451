-- The living rows are the places of the machine's report: every weight of places sums to the same over both.
use Rattle.machine.specs.All.{ℕ, suc, ◌+◌, ◌-◌, ◌≤◌, ◌<◌, arith, ◌≡◌, refl, sym, ap, ◌∙◌, Bool, true, false, cond, List, [], ◌∷◌, map, Option, none, some, lt-ltb, le-ltb, eq-eqb, ne_eqb, ltb-true, ltb-false, eqb-true, eqb-false, ltb, eqb, length, get_or, Transaction, Event, Gatherer, Interrupted, flat, those, State, of_facility, interrupted_at, Each, Place, moving_one, places}
use Rattle.machine.proofs.{Decoding.Proper.Names, Conservation.Standing.sum-places, Lists.Sums.sum_on, Lists.Sums.sum-map}
use Rattle.rows_laws.specs.All.{place, fel, nowhere, number_field, load, read, transaction_at, event_at, sum_to}
use Rattle.rows_laws.proofs.Counting.Sums.{sum-suc, sum_ext, sum-add, sum-zero}
use Rattle.state.specs.All.{gatherer_row, interrupted_row, lists_in, lists_of, Moving, Listing}
use Rattle.state.proofs.ListsOf.{lists-gatherers, lists-interrupted}
use Rattle.report_laws.specs.{list_place, place_of, place_at_lem}
use Rattle.report_laws.proofs as our
use our.Ranking.{all, weight}
use our.Rows.{sum-split, sum-only, sum-flat, sum-lists}

-- ---- Places of lists

place-living : (p : ℕ) → p < 771 → eqb (list_place p) 0 ≡ false
unfolding list_place
place-living p h = go (ltb p 64) (ltb p 448) (eqb p 448) (eqb p 770) (eqb p 449) (ltb p 706) (ltb p 770) refl refl
  where
    go : (a b c d e f g : Bool) → eqb p 770 ≡ d → ltb p 770 ≡ g
        → eqb (cond a 1 (cond b 2 (cond c 3 (cond d 4 (cond e 5 (cond f 7 (cond g 8 0))))))) 0 ≡ false
    go true b c d e f g i j = refl
    go false true c d e f g i j = refl
    go false false true d e f g i j = refl
    go false false false true e f g i j = refl
    go false false false false true f g i j = refl
    go false false false false false true g i j = refl
    go false false false false false false true i j = refl
    go false false false false false false false i j = absurd (split (eqb-false p 770 i) (ltb-false p 770 j))
      where
        split : (p ≡ 770 → ⊥) → 770 ≤ p → ⊥
        split x l = omega arith

place-free : (p : ℕ) → 771 ≤ p → list_place p ≡ 0
unfolding list_place
place-free p h =
    rw (
      le-ltb p 64 (omega arith),
      le-ltb p 448 (omega arith),
      ne_eqb p 448 (λ e. omega arith),
      ne_eqb p 770 (λ e. omega arith),
      ne_eqb p 449 (λ e. omega arith),
      le-ltb p 706 (omega arith),
      le-ltb p 770 (omega arith),
    )

place-ql : (p : ℕ) → p < 64 → list_place p ≡ 1
unfolding list_place
place-ql p h = rw (lt-ltb p 64 h)

place-wel : (i : ℕ) → i < 384 → list_place (64 + i) ≡ 2
unfolding list_place
place-wel i h = rw (le-ltb (64 + i) 64 (omega arith), lt-ltb (64 + i) 448 (omega arith))

place-gatherers : (i : ℕ) → i < 256 → list_place (450 + i) ≡ 7
unfolding list_place
place-gatherers i h =
    rw (
      le-ltb (450 + i) 64 (omega arith),
      le-ltb (450 + i) 448 (omega arith),
      ne_eqb (450 + i) 448 (λ e. omega arith),
      ne_eqb (450 + i) 770 (λ e. omega arith),
      ne_eqb (450 + i) 449 (λ e. omega arith),
      lt-ltb (450 + i) 706 (omega arith),
    )

place-interrupted : (i : ℕ) → i < 64 → list_place (706 + i) ≡ 8
unfolding list_place
place-interrupted i h =
    rw (
      le-ltb (706 + i) 64 (omega arith),
      le-ltb (706 + i) 448 (omega arith),
      ne_eqb (706 + i) 448 (λ e. omega arith),
      ne_eqb (706 + i) 770 (λ e. omega arith),
      ne_eqb (706 + i) 449 (λ e. omega arith),
      le-ltb (706 + i) 706 (omega arith),
      lt-ltb (706 + i) 770 (omega arith),
    )

lists-ql : (s : State) (p : ℕ) → p < 64 → lists_of s p ≡ get_or s.ql p []
unfolding lists_in
lists-ql s p h = rw (lt-ltb p 64 h)

lists-wel : (s : State) (i : ℕ) → i < 384 → lists_of s (64 + i) ≡ get_or s.wel i []
unfolding lists_in
lists-wel s i h =
    rw (le-ltb (64 + i) 64 (omega arith), lt-ltb (64 + i) 448 (omega arith)) (ap (λ n. get_or s.wel n []) (omega arith))

lists-wsl : (s : State) → lists_of s 448 ≡ s.wsl
unfolding lists_in
lists-wsl s = refl

lists-rel : (s : State) → lists_of s 449 ≡ s.rel
unfolding lists_in
lists-rel s = refl

place-wsl : list_place 448 ≡ 3
unfolding list_place
place-wsl = refl

place-rel : list_place 449 ≡ 5
unfolding list_place
place-rel = refl

place-fel : list_place 770 ≡ 4
unfolding list_place
place-fel = refl

-- ---- The interrupted ones, facility by facility

sum-facilities : (g : Interrupted → ℕ) (l : List Interrupted) → Each (λ i. Names 64 i.facility) l
    → sum_to 64 (λ i. sum_on g (those (of_facility (suc i)) l)) ≡ sum_on g l
unfolding those of_facility
sum-facilities g [] h = sum-zero 64 (λ i. 0) (λ k b. refl)
sum-facilities g (x ∷ l) h =
    omega (
      arith,
      sum_ext 64 (λ i. sum_on g (cond (eqb x.facility (suc i)) (x ∷ those (of_facility (suc i)) l) (those (of_facility (suc i)) l)))
          (λ i. cond (eqb i (x.facility - 1)) (g x) 0 + sum_on g (those (of_facility (suc i)) l)) (λ i b. each i),
      sum-add 64 (λ i. cond (eqb i (x.facility - 1)) (g x) 0) (λ i. sum_on g (those (of_facility (suc i)) l)),
      sum-only 64 (x.facility - 1) (λ i. g x) (omega (arith, h.0)),
      sum-facilities g l h.1,
    )
  where
    each : (i : ℕ)
        → sum_on g (cond (eqb x.facility (suc i)) (x ∷ those (of_facility (suc i)) l) (those (of_facility (suc i)) l))
        ≡ cond (eqb i (x.facility - 1)) (g x) 0 + sum_on g (those (of_facility (suc i)) l)
    each i = go (eqb i (x.facility - 1)) refl
      where
        go : (b : Bool) → eqb i (x.facility - 1) ≡ b
            → sum_on g (cond (eqb x.facility (suc i)) (x ∷ those (of_facility (suc i)) l) (those (of_facility (suc i)) l))
            ≡ cond b (g x) 0 + sum_on g (those (of_facility (suc i)) l)
        go true e = rw (eq-eqb x.facility (suc i) (omega (arith, h.0, eqb-true i (x.facility - 1) e)))
        go false e = rw (ne_eqb x.facility (suc i) (λ z. eqb-false i (x.facility - 1) e (omega arith))) (omega arith)

-- ---- The machine's places, weighed

module _ (f : Place → ℕ) where
  -- a transaction at a place
  abbrev at : ℕ → Transaction → ℕ
  at p t = f (record { number = t.number; place = p })

  -- ---- The rows, weighed

  module _ (w : List ℕ) (moving : ℕ) (s : State) (h : Listing w moving s.moving s) (qls : length s.ql ≤ 64)
      (wels : length s.wel ≤ 384)
      (blocks : length s.gatherers ≤ 256) (known : Each (λ i. Names 64 i.facility) s.interrupted) where
    -- row k at a place
    abbrev row : ℕ → ℕ → ℕ
    row p k = f (record { number = read w number_field k; place = p })

    abbrev L : ℕ → List ℕ
    L = h.shows.rows

    -- the rows of a list are its transactions
    list-weight : (p : ℕ) → p < 770 → (n : ℕ) → sum_on (row n) (L p) ≡ sum_on (at n) (lists_of s p)
    list-weight p l n = rows (L p) ∙ ap (sum_on (at n)) (h.shows.shown.lists p l)
      where
        rows : (l : List ℕ) → sum_on (row n) l ≡ sum_on (at n) (map (transaction_at w) l)
        rows l = unfold transaction_at in sym (sum-map (at n) (transaction_at w) l)

    fel-weight : sum_on (row 4) (L fel) ≡ sum_on (λ (e : Event). at 4 e.who) s.fel
    fel-weight = rows (L fel) ∙ ap (sum_on (λ (e : Event). at 4 e.who)) h.shows.shown.future
      where
        rows : (l : List ℕ) → sum_on (row 4) l ≡ sum_on (λ (e : Event). at 4 e.who) (map (event_at w) l)
        rows l = unfold event_at transaction_at in sym (sum-map (λ (e : Event). at 4 e.who) (event_at w) l)

    abbrev one : ℕ → ℕ
    one p = sum_on (row (list_place p)) (L p)

    one-is : (p n : ℕ) → p < 770 → list_place p ≡ n → (l : List Transaction) → lists_of s p ≡ l → one p ≡ sum_on (at n) l
    one-is p n b e l q = ap (λ m. sum_on (row m) (L p)) e ∙ list-weight p b n ∙ ap (sum_on (at n)) q

    abbrev gatherer : Gatherer → ℕ
    gatherer g = at 7 g.who

    block-weight : (i : ℕ) → i < 256 → one (450 + i) ≡ sum_on gatherer (get_or s.gatherers i [])
    block-weight i l =
        one-is (450 + i) 7 (omega arith) (place-gatherers i l) (map gatherer_row (get_or s.gatherers i [])) (lists-gatherers s i l)
        ∙ sum-map (at 7) gatherer_row (get_or s.gatherers i [])

    abbrev stopped : Interrupted → ℕ
    stopped i = at 8 i.who

    facility-weight : (i : ℕ) → i < 64 → one (706 + i) ≡ sum_on stopped (interrupted_at s (suc i))
    facility-weight i l =
        one-is (706 + i) 8 (omega arith) (place-interrupted i l) (map interrupted_row (interrupted_at s (suc i))) (lists-interrupted s i l)
        ∙ sum-map (at 8) interrupted_row (interrupted_at s (suc i))

    lists-weight : sum_to 771 one
        ≡ sum_on (at 1) (flat s.ql) + sum_on (at 2) (flat s.wel) + sum_on (at 3) s.wsl + sum_on (λ (e : Event). at 4 e.who)
        s.fel + sum_on (at 5) s.rel
        + sum_on gatherer (flat s.gatherers) + sum_on stopped s.interrupted
    lists-weight =
        omega (
          arith,
          sum-suc 770 one,
          sum-split 706 64 one,
          sum_ext 64 (λ i. one (706 + i)) (λ i. sum_on stopped (interrupted_at s (suc i))) facility-weight,
          sum-facilities stopped s.interrupted known,
          sum-split 450 256 one,
          sum_ext 256 (λ i. one (450 + i)) (λ i. sum_on gatherer (get_or s.gatherers i [])) block-weight,
          sum-flat gatherer s.gatherers 256 blocks,
          sum-suc 449 one,
          sum-suc 448 one,
          sum-split 64 384 one,
          sum_ext 64 one (λ i. sum_on (at 1) (get_or s.ql i [])) (λ k l. one-is k 1 (omega arith) (place-ql k l) _ (lists-ql s k l)),
          sum-flat (at 1) s.ql 64 qls,
          sum_ext 384 (λ i. one (64 + i)) (λ i. sum_on (at 2) (get_or s.wel i []))
              (λ k l. one-is (64 + k) 2 (omega arith) (place-wel k l) _ (lists-wel s k l)),
          sum-flat (at 2) s.wel 384 wels,
          one-is 448 3 (omega arith) place-wsl _ (lists-wsl s),
          one-is 449 5 (omega arith) place-rel _ (lists-rel s),
          ap (λ m. sum_on (row m) (L 770)) place-fel,
          fel-weight,
        )

    -- ---- The moving row

    moving-weight : (o : Option Transaction) → Moving w moving o
        → sum_to 1024 (λ k. cond (eqb k moving) (row 6 k) 0) ≡ sum_on (at 6) (moving_one o)
    unfolding moving_one
    moving-weight none e =
        sum-zero 1024 (λ k. cond (eqb k moving) (row 6 k) 0) (λ k l. ap (λ t. cond t (row 6 k) 0) (ne_eqb k moving (λ q. omega arith)))
    moving-weight (some t) e = sum-only 1024 moving (row 6) e.0.row ∙ same (ap (λ (u : Transaction). u.number) e.1)
      where
        same : (transaction_at w moving).number ≡ t.number → row 6 moving ≡ at 6 t + 0
        same q = unfold transaction_at in (ap (λ n. f (record { number = n; place = 6 })) q ∙ omega arith)

    off-lists : (o : Option Transaction) → Moving w moving o → moving < 1024 → load w (place moving) ≡ nowhere
    off-lists none e l = absurd (omega arith)
    off-lists (some t) e l = e.0.off

    -- ---- All

    row-weight : (k : ℕ) → k < 1024 →
        weight w moving f k ≡ cond (ltb (load w (place k)) 771) (row (list_place (load w (place k))) k) 0 + cond (eqb k moving) (row 6 k) 0
    unfolding place_at_lem place_of
    row-weight k l = go (eqb k moving) refl (ltb (load w (place k)) 771) refl
      where
        p : ℕ
        p = load w (place k)

        go : (t : Bool) → eqb k moving ≡ t → (u : Bool) → ltb p 771 ≡ u →
            cond (eqb (cond t 6 (list_place p)) 0) 0 (row (cond t 6 (list_place p)) k) ≡ cond u (row (list_place p) k) 0 + cond t (row 6 k) 0
        go true e true q =
            absurd (omega (
              arith,
              ltb-true p 771 q,
              off-lists s.moving h.mover (omega (arith, eqb-true k moving e)),
              ap (λ n. load w (place n)) (eqb-true k moving e),
            ))
        go true e false q = omega arith
        go false e true q = rw (place-living p (ltb-true p 771 q)) (omega arith)
        go false e false q = rw (place-free p (ltb-false p 771 q))

    pub all-places : all w moving f ≡ sum_on f (places s)
    all-places =
        omega (
          arith,
          sum_ext 1024 (weight w moving f)
              (λ k. cond (ltb (load w (place k)) 771) (row (list_place (load w (place k))) k) 0 + cond (eqb k moving) (row 6 k) 0)
              row-weight,
          sum-add 1024 (λ k. cond (ltb (load w (place k)) 771) (row (list_place (load w (place k))) k) 0)
              (λ k. cond (eqb k moving) (row 6 k) 0),
          sum-lists w L h.shows.shown.holds 771 (λ p k. row (list_place p) k) (omega arith),
          lists-weight,
          moving-weight s.moving h.mover,
          sum-places f s,
        )
