-- A clock move: `arrive` takes those of the first time from the FEL to REL, as the machine's `arrive_all` does.
use Rattle.machine.specs.All.{ℕ, zero, suc, ◌+◌, ◌≤◌, ◌<◌, ◌≡◌, refl, sym, ap, ◌∙◌, subst, Bool, true, false, cond, not, List, [], ◌∷◌, map, arith, lt-ltb, le-ltb, eqb-true, eqb, length, get_or, drop, Transaction, Event, precedes, earlier, with_serial, with_returning, insert, those, others, due}
use Rattle.rows_laws.specs.All.{place, rel, fel, list_count, load, write, set_returning, outranks, first, cancel, is_due, arrive_row, arrive_first, Arrived, arrived, arrive, arrivals, transaction_at, event_at, update, Sorted, Strict, Shown, Held, Loose}
use Rattle.rows_laws.proofs as our
use our.Order.SortedInsertion.{insert-sorted, strict-sorted, sorted-drop}
use our.{Order.RowOrders.precedes-order, Order.RowOrders.earlier-order, Counting.Occurs.same_refl, Counting.Occurs.occurs-cons, Chains.StructuralLaw.row_of, Placing.Spot.short, Buffer.RowData.same_row, Buffer.RowData.transaction-kept, Chains.InsertRemove.Kept, Chains.Showing.shown_ext, Heap.Scheduling.cancel-keeps, Heap.Scheduling.cancel-placed, Heap.FutureEvents.first-fel, Heap.FutureEvents.cancel-shown, Buffer.RowWrites.write-shown, Buffer.RowWrites.write-loose, Buffer.FieldWrites.set-returning, Buffer.FieldWrites.write-serial, Steps.arrive-stop}
use our.Placing.Put.{put-shown, put_keeps, put-placed}
use our.Chains.TakeFirst.{First, none, some}
use our.Life.LooseRowsStay.{Steady, steady_refl, steady_trans, around_trans, kept-around, write-around, around-steady}
use our.Clock.MachineArrivals.{run, left, run_is, left_is}
use Prim.Native.Nat.{◌*◌, ◌/◌}
use Rattle.rows_laws.specs.Cells.{read}
use Rattle.rows_laws.specs.Lists.{put}

-- ---- One row

module _ (w : List ℕ) (L : ℕ → List ℕ) (T : ℕ → List Transaction) (E : List Event) (s : Shown w L T E) (m : List ℕ)
    (was : L fel ≡ first w fel ∷ m) (hk : first w fel < 1024) (serial : ℕ) where
  abbrev k : ℕ
  k = first w fel

  hl : fel < list_count
  hl = omega arith

  abbrev w₁ : List ℕ
  w₁ = cancel w k

  abbrev L₁ : ℕ → List ℕ
  L₁ = update fel m L

  kept₁ : Kept w w₁ k
  kept₁ = cancel-keeps w L s.holds k hk [] m was

  s₁ : Shown w₁ L₁ T (drop 1 E)
  s₁ =
      subst (λ (l : List Event). Shown w₁ L₁ T l) (ap (λ (l : List ℕ). drop 1 (map (event_at w) l)) (sym was) ∙ ap (drop 1) s.future)
      (cancel-shown w L T E s k hk [] m was)

  loose₁ : Loose w₁ k
  loose₁ = record { row = hk; off = cancel-placed w L s.holds k hk [] m was }

  abbrev w₂ : List ℕ
  w₂ = set_returning w₁ k 0

  s₂ : Shown w₂ L₁ T (drop 1 E)
  s₂ = write-shown w₁ 1 k (read w₁ 1 k / 2 * 2 + 0) (omega arith) loose₁ L₁ T (drop 1 E) s₁

  loose₂ : Loose w₂ k
  loose₂ = write-loose w₁ 1 k (read w₁ 1 k / 2 * 2 + 0) (omega arith) k hk loose₁

  abbrev w₃ : List ℕ
  w₃ = write w₂ 7 k serial

  s₃ : Shown w₃ L₁ T (drop 1 E)
  s₃ = write-shown w₂ 7 k serial (omega arith) loose₂ L₁ T (drop 1 E) s₂

  loose₃ : Loose w₃ k
  loose₃ = write-loose w₂ 7 k serial (omega arith) k hk loose₂

  fresh : transaction_at w₃ k ≡ with_serial serial (with_returning false (transaction_at w k))
  fresh =
      write-serial w₂ k s₂.holds.room hk serial
      ∙ ap (with_serial serial) (set-returning w₁ k s₁.holds.room hk 0 (omega arith))
      ∙ ap (λ (t : Transaction). with_serial serial (with_returning false t)) (transaction-kept w w₁ k (same_row w w₁ k hk kept₁.rows))

  abbrev pub arrived-rows : ℕ → List ℕ
  arrived-rows = update rel (insert (outranks w₃) k (L₁ rel)) L₁

  pub arrived-fel : arrived-rows fel ≡ m
  arrived-fel = refl

  -- one arrival: the row leaves the front of the FEL and stands on REL by its new serial, no longer returning
  pub arrive-shown : Sorted precedes (T rel)
      → Shown (arrive_first w serial) arrived-rows
      (update rel (insert precedes (with_serial serial (with_returning false (transaction_at w k))) (T rel)) T) (drop 1 E)
  unfolding arrive_first arrive_row
  arrive-shown ready =
      rw (lt-ltb (first w fel) 1024 hk)
      (subst (λ (t : Transaction). Shown (put w₃ rel k) arrived-rows (update rel (insert precedes t (T rel)) T) (drop 1 E)) fresh
      (put-shown w₃ L₁ T (drop 1 E) s₃ k loose₃ rel (omega arith) ready))

  placed : load w (place k) ≡ fel
  placed =
      (row_of w fel [] (k ∷ m) (rw was at (s.holds.listed fel hl)) k (omega (arith, occurs-cons k k m, same_refl k k refl))).1

  pub arrive-steady : Steady w (arrive_first w serial)
  unfolding arrive_first arrive_row
  arrive-steady =
      rw (lt-ltb (first w fel) 1024 hk)
      (around-steady w (put w₃ rel k) k hk (omega (arith, placed))
      (omega (arith, put-placed w₃ L₁ s₃.holds rel k (omega arith) (λ e. omega arith) loose₃))
      (around_trans w w₁ (put w₃ rel k) k (kept-around w w₁ k kept₁)
      (around_trans w₁ w₂ (put w₃ rel k) k (write-around w₁ 1 k (read w₁ 1 k / 2 * 2 + 0) (omega arith) hk)
      (around_trans w₂ w₃ (put w₃ rel k) k (write-around w₂ 7 k serial (omega arith) hk)
      (kept-around w₃ (put w₃ rel k) k (put_keeps w₃ L₁ s₃.holds rel k (omega arith) (λ e. omega arith) loose₃))))))

-- ---- The first, or none

nobody : (w : List ℕ) (l : List ℕ) → First w fel l → l ≡ [] → 1024 ≤ first w fel
nobody w l (none q h) e = h
nobody w l (some m q h) e = absurd (omega (arith, ap (λ (x : List ℕ). length x) (sym q ∙ e)))

somebody : (w : List ℕ) (l : List ℕ) → First w fel l → (k : ℕ) (m : List ℕ) → l ≡ k ∷ m → (first w fel ≡ k) × (first w fel < 1024)
somebody w l (none q h) k m e = absurd (omega (arith, ap (λ (x : List ℕ). length x) (sym q ∙ e)))
somebody w l (some r q h) k m e = (ap (λ (x : List ℕ). get_or x 0 0) (sym q ∙ e), h)

-- ---- All of a time

-- what a clock move leaves
pub record Came (w : List ℕ) (r : Arrived) (T : ℕ → List Transaction) (E : List Event) (serial : ℕ) : Type 0 where
  pub held : Held r.rows T E
  pub last : r.serial ≡ serial
  pub steady : Steady w r.rows

-- REL replaced by itself, and twice
rel-same : (T : ℕ → List Transaction) (q : ℕ) → T q ≡ update rel (T rel) T q
rel-same T q = go (eqb q rel) refl
  where
    go : (t : Bool) → eqb q rel ≡ t → T q ≡ cond t (T rel) (T q)
    go true e = ap T (eqb-true q rel e)
    go false e = refl

rel-twice : (l m : List Transaction) (T : ℕ → List Transaction) (q : ℕ) → update rel l (update rel m T) q ≡ update rel l T q
rel-twice l m T q = go (eqb q rel)
  where
    go : (t : Bool) → cond t l (cond t m (T q)) ≡ cond t l (T q)
    go true = refl
    go false = refl

module _ (time : ℕ) where
  abbrev Result : (n : ℕ) (w : List ℕ) (T : ℕ → List Transaction) (E : List Event) (s : ℕ) → Type 0
  Result n w T E s =
      Came w (arrive n time w s) (update rel (arrivals (run time E) s (T rel)) T) (left time E) (s + length (run time E))

  -- nobody is due
  stops : (w : List ℕ) (L : ℕ → List ℕ) (T : ℕ → List Transaction) (E : List Event) → Shown w L T E → (n s : ℕ) → is_due w time ≡ false
      → run time E ≡ [] → left time E ≡ E
      → Result n w T E s
  unfolding arrived arrivals
  stops w L T E sh n s e f g =
      rw (arrive-stop time w s n e, f, g)
      (record {
        held = record { rows = L; shown = shown_ext w L T (update rel (T rel) T) E (λ q hq. rel-same T q) sh };
        last = omega arith;
        steady = steady_refl w;
      })

  due-some : (w : List ℕ) → first w fel < 1024 → is_due w time ≡ due time (event_at w (first w fel))
  unfolding is_due due event_at
  due-some w h = rw (lt-ltb (first w fel) 1024 h)

  due-none : (w : List ℕ) → 1024 ≤ first w fel → is_due w time ≡ false
  unfolding is_due
  due-none w h = rw (le-ltb (first w fel) 1024 h)

  arrive-suc : (n : ℕ) (w : List ℕ) (s : ℕ) → is_due w time ≡ true → arrive (suc n) time w s ≡ arrive n time (arrive_first w (suc s)) (suc s)
  unfolding arrive
  arrive-suc n w s e = rw e

  module _ (n : ℕ) (w : List ℕ) (L : ℕ → List ℕ) (T : ℕ → List Transaction) (E₁ : List Event) (s : ℕ) (hk : first w fel < 1024) where
    abbrev e₀ : Event
    e₀ = event_at w (first w fel)

    abbrev R₁ : List Transaction
    R₁ = insert precedes (with_serial (suc s) (with_returning false (transaction_at w (first w fel)))) (T rel)

    -- the first is due
    comes : Steady w (arrive_first w (suc s)) → due time e₀ ≡ true → Result n (arrive_first w (suc s)) (update rel R₁ T) E₁ (suc s)
        → Result (suc n) w T (e₀ ∷ E₁) s
    unfolding run left arrivals event_at
    comes st q rest =
        rw (arrive-suc n w s (due-some w hk ∙ q), q)
        (record {
          held = record {
            rows = rest.held.rows;
            shown =
                shown_ext (arrive n time (arrive_first w (suc s)) (suc s)).rows rest.held.rows
                (update rel (arrivals (run time E₁) (suc s) R₁) (update rel R₁ T)) (update rel (arrivals (run time E₁) (suc s) R₁) T)
                (left time E₁) (λ p hp. rel-twice (arrivals (run time E₁) (suc s) R₁) R₁ T p) rest.held.shown;
          };
          last = rest.last ∙ omega arith;
          steady = steady_trans w (arrive_first w (suc s)) (arrive n time (arrive_first w (suc s)) (suc s)).rows st rest.steady;
        })

    -- it is not
    waits : Shown w L T (e₀ ∷ E₁) → due time e₀ ≡ false → Result (suc n) w T (e₀ ∷ E₁) s
    unfolding run left
    waits sh q = stops w L T (e₀ ∷ E₁) sh (suc n) s (due-some w hk ∙ q) (rw q) (rw q)

    split : Shown w L T (e₀ ∷ E₁) → Steady w (arrive_first w (suc s)) → Result n (arrive_first w (suc s)) (update rel R₁ T) E₁ (suc s)
        → Result (suc n) w T (e₀ ∷ E₁) s
    split sh st rest = go (due time e₀) refl
      where
        go : (t : Bool) → due time e₀ ≡ t → Result (suc n) w T (e₀ ∷ E₁) s
        go true q = comes st q rest
        go false q = waits sh q

  -- the loop takes exactly those of the first time, by induction on the rows of the FEL
  pub arrive-run : (n : ℕ) (l : List ℕ) (w : List ℕ) (L : ℕ → List ℕ) (T : ℕ → List Transaction) (E : List Event) (sh : Shown w L T E)
      → Sorted precedes (T rel) → Strict earlier E → L fel ≡ l → length l ≤ n → (s : ℕ)
      → Result n w T E s
  unfolding run left
  arrive-run n [] w L T E sh ready strict was len s =
      let e : E ≡ [] = sym sh.future ∙ ap (map (event_at w)) was in
      stops w L T E sh n s (due-none w (nobody w (L fel) (first-fel w L T E sh strict) was)) (ap (run time) e) (ap (left time) e ∙ sym e)
  arrive-run zero (k ∷ l) w L T E sh ready strict was len s = absurd (omega arith)
  arrive-run (suc n) (k ∷ l) w L T E sh ready strict was len s =
      let c = somebody w (L fel) (first-fel w L T E sh strict) k l was in
      let hk : first w fel < 1024 = c.1 in
      let was' : L fel ≡ first w fel ∷ l = was ∙ ap (λ (x : ℕ). x ∷ l) (sym c.0) in
      let e : E ≡ event_at w (first w fel) ∷ map (event_at w) l = sym sh.future ∙ ap (map (event_at w)) was' in
      let sh' : Shown w L T (event_at w (first w fel) ∷ map (event_at w) l) = subst (λ (x : List Event). Shown w L T x) e sh in
      subst (λ (x : List Event). Result (suc n) w T x s) (sym e)
      (split n w L T (map (event_at w) l) s hk sh'
      (arrive-steady w L T (event_at w (first w fel) ∷ map (event_at w) l) sh' l was' hk (suc s))
      (arrive-run n l (arrive_first w (suc s)) (arrived-rows w L T (event_at w (first w fel) ∷ map (event_at w) l) sh' l was' hk (suc s))
      (update rel (R₁ n w L T (map (event_at w) l) s hk) T) (map (event_at w) l)
      (arrive-shown w L T (event_at w (first w fel) ∷ map (event_at w) l) sh' l was' hk (suc s) ready)
      (insert-sorted precedes precedes-order (with_serial (suc s) (with_returning false (transaction_at w (first w fel)))) (T rel) ready)
      (sorted-drop (λ y x. not (earlier x y)) _ (subst (Strict earlier) e strict))
      (arrived-fel w L T (event_at w (first w fel) ∷ map (event_at w) l) sh' l was' hk (suc s)) (omega arith) (suc s)))

-- ---- A clock move

-- to the first time of the FEL, which is in order, as is REL
pub arrive-held : (w : List ℕ) (L : ℕ → List ℕ) (T : ℕ → List Transaction) (E : List Event) → Shown w L T E → Sorted precedes (T rel)
    → Strict earlier E → (e : Event) (l : List Event) → E ≡ e ∷ l → (s : ℕ)
    → Came w (arrive 1024 e.time w s) (update rel (arrivals (those (due e.time) E) s (T rel)) T) (others (due e.time) E)
    (s + length (those (due e.time) E))
arrive-held w L T E sh ready future e l q s =
    let sorted : Sorted earlier (e ∷ l) = strict-sorted earlier earlier-order (e ∷ l) (rw q at future) in
    let r : run e.time E ≡ those (due e.time) E = ap (run e.time) q ∙ run_is e l sorted ∙ ap (those (due e.time)) (sym q) in
    let f : left e.time E ≡ others (due e.time) E =
    ap (left e.time) q ∙ left_is e l sorted ∙ ap (others (due e.time)) (sym q) in
    rw (r, f) at
    (arrive-run e.time 1024 (L fel) w L T E sh ready future refl (short w fel (L fel) (sh.holds.listed fel (omega arith))) s)
