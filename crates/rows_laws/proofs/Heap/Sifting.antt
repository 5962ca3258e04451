-- A row finds its slot: from a heap with one slot to be filled, `rise` and `sink` leave a full one.
use Rattle.machine.specs.All.{ℕ, zero, suc, ◌+◌, ◌*◌, ◌≤◌, ◌<◌, ◌≡◌, refl, sym, ap, ◌∙◌, ◌≢◌, Bool, true, false, cond, List, arith, ℕ_discrete, lt-ltb, le-ltb, eq-eqb, ne_eqb, ltb-true, ltb-false, ltb}
use Rattle.rows_laws.specs.All.{slot, load, time_of, sooner_at, sooner, up, settle, above, rise, sooner_of, below, sink}
use Rattle.rows_laws.proofs as our
use our.{Order.SortedInsertion.Order, Buffer.RowData.SameData}
use our.Heap.Slots.{up-less, up_left, up_right, Below, left, right, below_of, pull-row, Sifted, sifted_data, sifted_trans, settle-sifted, sooner-kept, time-kept}
use our.Steps.{rise-end, rise-stop, rise-next, sink-stop, sink-next}
use our.Heap.OpenSlot.{Open, Under, Full, risen, risen-under, sunk, filled}
use Rattle.rows_laws.proofs.Heap.OpenSlot.{Seat}

-- ---- One step

above-row : (w : List ℕ) (time k i : ℕ) → i ≢ 0 → load w (slot (up i)) < 1024
    → above w time k i ≡ cond (sooner_at w time k (load w (slot (up i)))) (up i) i
unfolding above
above-row w time k i d h = rw (ne_eqb i 0 d, lt-ltb (load w (slot (up i))) 1024 h)

above-top : (w : List ℕ) (time k i : ℕ) → i ≡ 0 → above w time k i ≡ i
unfolding above
above-top w time k i e = rw (eq-eqb i 0 e)

below_none : (w : List ℕ) (n i : ℕ) → n ≤ 2 * i + 1 → below w n i ≡ i
unfolding below
below_none w n i h = rw (le-ltb (2 * i + 1) n h)

below_one : (w : List ℕ) (n i : ℕ) → 2 * i + 1 < n → n ≤ 2 * i + 2 → below w n i ≡ 2 * i + 1
unfolding below
below_one w n i h g = rw (lt-ltb (2 * i + 1) n h, le-ltb (2 * i + 2) n g)

below_two : (w : List ℕ) (n i : ℕ) → 2 * i + 2 < n → load w (slot (2 * i + 1)) < 1024 → load w (slot (2 * i + 2)) < 1024
    → below w n i ≡ cond (sooner w (load w (slot (2 * i + 2))) (load w (slot (2 * i + 1)))) (2 * i + 2) (2 * i + 1)
unfolding below sooner_of
below_two w n i h a b =
    let next : 2 * i + 1 + 1 ≡ 2 * i + 2 = omega arith in
    rw (
      lt-ltb (2 * i + 1) n (omega arith),
      lt-ltb (2 * i + 2) n h,
      lt-ltb (load w (slot (2 * i + 1))) 1024 a,
      next,
      lt-ltb (load w (slot (2 * i + 2))) 1024 b,
    )

module _ (before : ℕ → ℕ → Bool) (o : Order before) where
  irreflexive : (x : ℕ) → before x x ≡ false
  irreflexive x = go (before x x) refl
    where
      go : (t : Bool) → before x x ≡ t → before x x ≡ false
      go true e = o.asym x x e
      go false e = e

  -- rows compare so
  abbrev pub Agrees : List ℕ → Type 0
  Agrees w = (x y : ℕ) → x < 1024 → y < 1024 → sooner w x y ≡ before x y

  agrees-kept : (w w' : List ℕ) → SameData w w' → Agrees w → Agrees w'
  agrees-kept w w' kept a x y hx hy = sooner-kept w w' kept x y hx hy ∙ a x y hx hy

  -- what is left
  pub record Sorts (w w' : List ℕ) (n : ℕ) : Type 0 where
    pub full : Full before w' n
    pub sifted : Sifted w w'

  module _ (n k time : ℕ) where
    -- ---- Upwards

    data Turns (w : List ℕ) (i : ℕ) : Type 0 where
      stays : above w time k i ≡ i → (0 < i → before k (load w (slot (up i))) ≡ false) → Turns w i
      goes : 0 < i → above w time k i ≡ up i → before k (load w (slot (up i))) ≡ true → Turns w i

    turns : (w : List ℕ) (i : ℕ) → Open before w n i k → Agrees w → time_of w k ≡ time → Turns w i
    unfolding sooner
    turns w i h a e = go (ℕ_discrete i 0)
      where
        go : Dec (i ≡ 0) → Turns w i
        go (yes q) = stays (above-top w time k i q) (λ p. absurd (omega arith))
        go (no d) =
            let p : 0 < i = omega arith in
            let row : load w (slot (up i)) < 1024 =
            (h.seat (up i) (omega (arith, h.hole, up-less i p)) (λ q. omega (arith, up-less i p))).row in
            let same : sooner_at w time k (load w (slot (up i))) ≡ before k (load w (slot (up i))) =
            ap (λ (t : ℕ). sooner_at w t k (load w (slot (up i)))) (sym e) ∙ a k (load w (slot (up i))) h.row row in
            choose (before k (load w (slot (up i)))) refl p (above-row w time k i d row ∙ ap (λ (b : Bool). cond b (up i) i) same)
          where
            choose : (b : Bool) → before k (load w (slot (up i))) ≡ b → 0 < i
                → above w time k i ≡ cond (before k (load w (slot (up i)))) (up i) i
                → Turns w i
            choose true q p f = goes p (f ∙ ap (λ (b : Bool). cond b (up i) i) q) q
            choose false q p f = stays (f ∙ ap (λ (b : Bool). cond b (up i) i) q) (λ p. q)

    settles : (w : List ℕ) (i : ℕ) → Open before w n i k → Under before w n i k → (0 < i → before k (load w (slot (up i))) ≡ false)
        → Sorts w (settle w i k) n
    settles w i h u s =
        record { full = filled before o w n i k h u s; sifted = settle-sifted w i k (omega (arith, h.hole, h.many)) h.row h.placed }

    -- a row that may be too early for its slot rises to one where the heap is in order
    pub rise-sorts : (m : ℕ) (w : List ℕ) (i : ℕ) → i ≤ m → Open before w n i k → Under before w n i k → Agrees w → time_of w k ≡ time
        → Sorts w (rise m w time k i) n
    rise-sorts zero w i le h u a e = rw (rise-end w time k i 0 refl) (settles w i h u (λ p. absurd (omega arith)))
    rise-sorts (suc m) w i le h u a e = go (turns w i h a e) (rise-sorts m)
      where
        go : Turns w i
            →
            ((v : List ℕ) (j : ℕ) → j ≤ m → Open before v n j k → Under before v n j k → Agrees v → time_of v k ≡ time → Sorts v
            (rise m v time k j) n)
            → Sorts w (rise (suc m) w time k i) n
        go (stays q s) rest = rw (rise-stop w time k i (suc m) q) (settles w i h u s)
        go (goes p q t) rest =
            let d : up i ≢ i = λ z. omega (arith, up-less i p) in
            let s : Seat w k (up i) = h.seat (up i) (omega (arith, h.hole, up-less i p)) d in
            let v : List ℕ = settle w i (load w (slot (up i))) in
            let moved : Sifted w v = settle-sifted w i (load w (slot (up i))) (omega (arith, h.hole, h.many)) s.row s.at in
            let r : Sorts v (rise m v time k (up i)) n = rest v (up i) (omega (arith, up-less i p)) (risen before o w n i k h p t)
            (risen-under before o w n i k h p t)
            (agrees-kept w v (sifted_data w v moved) a) (time-kept w v (sifted_data w v moved) k h.row ∙ e) in
            rw (rise-next w time k i (suc m) m (up i) refl q d, pull-row w i (up i) s.row)
            (record { full = r.full; sifted = sifted_trans w v (rise m v time k (up i)) moved r.sifted })

    -- ---- Downwards

    data Falls (w : List ℕ) (i : ℕ) : Type 0 where
      ends : below w n i ≡ i → ((j : ℕ) → 0 < j → j < n → up j ≢ i) → Falls w i
      falls : (c : ℕ) → below w n i ≡ c → 0 < c → c < n → up c ≡ i
          → ((j : ℕ) → 0 < j → j < n → up j ≡ i → before (load w (slot j)) (load w (slot c)) ≡ false)
          → Falls w i

    falls_of : (w : List ℕ) (i : ℕ) → Open before w n i k → Agrees w → Falls w i
    falls_of w i h a = go (ltb (2 * i + 1) n) refl (ltb (2 * i + 2) n) refl
      where
        row : (j : ℕ) → j < n → i < j → load w (slot j) < 1024
        row j hj d = (h.seat j hj (λ q. omega arith)).row

        alike : (j c : ℕ) → j ≡ c → before (load w (slot j)) (load w (slot c)) ≡ false
        alike j c q = rw q (irreflexive (load w (slot c)))

        pick : 2 * i + 2 < n → (t : Bool) → before (load w (slot (2 * i + 2))) (load w (slot (2 * i + 1))) ≡ t
            → below w n i ≡ cond t (2 * i + 2) (2 * i + 1)
            → Falls w i
        pick hn true q f =
            falls (2 * i + 2) f (omega arith) hn (up_right i)
            (λ j hj jn e. case j (below_of i j hj e))
          where
            case : (j : ℕ) → Below i j → before (load w (slot j)) (load w (slot (2 * i + 2))) ≡ false
            case j (left z) = rw z (o.asym (load w (slot (2 * i + 2))) (load w (slot (2 * i + 1))) q)
            case j (right z) = alike j (2 * i + 2) z
        pick hn false q f =
            falls (2 * i + 1) f (omega arith) (omega arith) (up_left i)
            (λ j hj jn e. case j (below_of i j hj e))
          where
            case : (j : ℕ) → Below i j → before (load w (slot j)) (load w (slot (2 * i + 1))) ≡ false
            case j (left z) = alike j (2 * i + 1) z
            case j (right z) = rw z q

        go : (s : Bool) → ltb (2 * i + 1) n ≡ s → (t : Bool) → ltb (2 * i + 2) n ≡ t → Falls w i
        go false e t f = ends (below_none w n i (ltb-false (2 * i + 1) n e)) (λ j hj jn q. omega (arith, ltb-false (2 * i + 1) n e))
        go true e false f =
            let hn : 2 * i + 1 < n = ltb-true (2 * i + 1) n e in
            falls (2 * i + 1) (below_one w n i hn (ltb-false (2 * i + 2) n f)) (omega arith) hn (up_left i)
            (λ j hj jn q. alike j (2 * i + 1) (omega (arith, ltb-false (2 * i + 2) n f)))
        go true e true f =
            let hn : 2 * i + 2 < n = ltb-true (2 * i + 2) n f in
            let x : load w (slot (2 * i + 1)) < 1024 = row (2 * i + 1) (omega arith) (omega arith) in
            let y : load w (slot (2 * i + 2)) < 1024 = row (2 * i + 2) hn (omega arith) in
            pick hn (before (load w (slot (2 * i + 2))) (load w (slot (2 * i + 1)))) refl
            (below_two w n i hn x y
            ∙ ap (λ (b : Bool). cond b (2 * i + 2) (2 * i + 1)) (a (load w (slot (2 * i + 2))) (load w (slot (2 * i + 1))) y x))

    -- the slot sinks to the bottom and the row rises from there
    pub sink-sorts : (m : ℕ) (w : List ℕ) (i : ℕ) → n ≤ m + i → Open before w n i k → Agrees w → time_of w k ≡ time
        → Sorts w (sink m w n time k i) n
    sink-sorts zero w i le h a e = absurd (omega (arith, h.hole))
    sink-sorts (suc m) w i le h a e = go (falls_of w i h a) (sink-sorts m)
      where
        go : Falls w i
            → ((v : List ℕ) (j : ℕ) → n ≤ m + j → Open before v n j k → Agrees v → time_of v k ≡ time → Sorts v (sink m v n time k j) n)
            → Sorts w (sink (suc m) w n time k i) n
        go (ends q none) rest =
            rw (sink-stop w n time k i (suc m) q)
            (rise-sorts 1024 w i (omega (arith, h.hole, h.many)) h (λ j hj jn z. absurd (none j hj jn z)) a e)
        go (falls c q p hc z least) rest =
            let d : c ≢ i = λ y. omega (arith, up-less c p) in
            let s : Seat w k c = h.seat c hc d in
            let v : List ℕ = settle w i (load w (slot c)) in
            let moved : Sifted w v = settle-sifted w i (load w (slot c)) (omega (arith, h.hole, h.many)) s.row s.at in
            let r : Sorts v (sink m v n time k c) n = rest v c (omega (arith, up-less c p)) (sunk before o w n i k h c p hc z least)
            (agrees-kept w v (sifted_data w v moved) a) (time-kept w v (sifted_data w v moved) k h.row ∙ e) in
            rw (sink-next w n time k i (suc m) m c refl q d, pull-row w i c s.row)
            (record { full = r.full; sifted = sifted_trans w v (sink m v n time k c) moved r.sifted })
