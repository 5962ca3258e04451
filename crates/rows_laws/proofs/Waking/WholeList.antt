-- A whole list goes to REL, before all who are there: what joining its chain to that of REL leaves, once its rows are ready, is the
-- machine's `wake`.
use Rattle.machine.specs.All.{ℕ, zero, suc, ◌+◌, ◌*◌, ◌-◌, ◌/◌, ◌%◌, ◌≤◌, ◌<◌, ◌≡◌, refl, sym, ap, ◌∙◌, subst, ◌≢◌, Bool, true, false, cond, List, [], ◌∷◌, ◌++◌, map, map-append, map-map, append-nil, arith, ℕ_discrete, eq-eqb, ne_eqb, eqb-true, eqb-false, ltb, eqb, length, Transaction, Event, precedes, with_returning, wake}
use Rattle.rows_laws.specs.All.{place, link, head, tail, wsl, rel, fel, free, links, heads, list_count, data_fields, field_at, load, read, store, time_of, outranks, first, empty_list, ready_place, ready_standing, end_at, end_ready, join_at, join_ready, transaction_at, event_at, same, occurs, Chain, ending, Listed, Holds, update, Sorted, loose, Shown, Shows, Loose, order_of, moved}
use Rattle.rows_laws.proofs as our
use our.Buffer.Store.{length-store, load_same, load-other}
use our.Chains.CellChanges.{length-end_at, load-end_at, end_at-row, end_at-none}
use our.Counting.Occurs.{same_refl, same-other, occurs-append}
use our.{Order.SortedInsertion.last_of, Order.RowOrders.outranks-is, Waking.SortedJoin.Leads, Waking.SortedJoin.wake-before, Waking.ReadyRows.Readied, Chains.StructuralLaw.row_of, Chains.StructuralLaw.at-most-once, Placing.Spot.short, Heap.Slots.sooner-rows, Heap.StaysHeap.Unread, Heap.StaysHeap.heaped-kept, Chains.Showing.update_other, Counting.Sums.sum_ext, Counting.LooseRows.off, Counting.LooseRows.off-placed, Life.LooseRowsStay.Steady, Laws.Wakes}
use our.Chains.Chain.{EndsAt, start, behind, ends, chain-moved, chain-joined, ending-append}
use our.Buffer.RowData.{SameRow, transaction-kept, event-kept, map-kept}
use our.Chains.TakeFirst.{First, none, some, first_of, rows-first}
use our.Order.StayInOrder.{sorted-line, ordered-moved, wake-sorted}

-- ---- The numbers after chains are joined

module _ (v : List ℕ) (p t r : ℕ) (room : 16384 ≤ length v) (hp : p < wsl) (low : links ≤ t) (high : t < heads) where
  abbrev v₁ : List ℕ
  v₁ = store v t r

  abbrev v₂ : List ℕ
  v₂ = store v₁ (head rel) (first v p)

  abbrev v₃ : List ℕ
  v₃ = end_at v₂ rel r t

  abbrev v₄ : List ℕ
  v₄ = store v₃ (head p) 1024

  room₁ : 16384 ≤ length v₁
  room₁ = rw length-store room

  room₂ : 16384 ≤ length v₂
  room₂ = rw length-store room₁

  room₃ : 16384 ≤ length v₃
  room₃ = rw length-end_at room₂

  room₄ : 16384 ≤ length v₄
  room₄ = rw length-store room₃

  join_is : join_at v p t r ≡ store v₄ (tail p) (head p)
  unfolding join_at empty_list end_ready end_at
  join_is = refl

  join-room : 16384 ≤ length (join_at v p t r)
  join-room = rw (join_is, length-store) room₄

  -- all but list p
  below : (i : ℕ) → i ≢ head p → i ≢ tail p → load (join_at v p t r) i ≡ load v₃ i
  below i d e = rw join_is (load-other v₄ _ _ i e ∙ load-other v₃ _ _ i d)

  join-other : (i : ℕ) → i ≢ t → i ≢ head rel → i ≢ tail rel → i ≢ head p → i ≢ tail p → load (join_at v p t r) i ≡ load v i
  join-other i a b c d e =
      below i d e ∙ load-end_at v₂ rel r t i c ∙ load-other v₁ _ _ i b ∙ load-other v t r i a

  join-cell : load (join_at v p t r) t ≡ r
  join-cell =
      below t (λ e. omega arith) (λ e. omega arith)
      ∙ load-end_at v₂ rel r t t (λ e. omega arith)
      ∙ load-other v₁ _ _ t (λ e. omega arith)
      ∙ load_same v t r room (omega arith)

  join_first : load (join_at v p t r) (head rel) ≡ first v p
  join_first =
      below (head rel) (λ e. omega arith) (λ e. omega arith)
      ∙ load-end_at v₂ rel r t (head rel) (λ e. omega arith)
      ∙ load_same v₁ (head rel) (first v p) room₁ (omega arith)

  join-tail-row : r < 1024 → load (join_at v p t r) (tail rel) ≡ load v (tail rel)
  join-tail-row h =
      below (tail rel) (λ e. omega arith) (λ e. omega arith)
      ∙ ap (λ (u : List ℕ). load u (tail rel)) (end_at-row v₂ rel r t h)
      ∙ load-other v₁ _ _ (tail rel) (λ e. omega arith)
      ∙ load-other v t r (tail rel) (λ e. omega arith)

  join-tail-none : 1024 ≤ r → load (join_at v p t r) (tail rel) ≡ t
  join-tail-none h =
      below (tail rel) (λ e. omega arith) (λ e. omega arith)
      ∙ ap (λ (u : List ℕ). load u (tail rel)) (end_at-none v₂ rel r t h)
      ∙ load_same v₂ (tail rel) t room₂ (omega arith)

  join-empty : load (join_at v p t r) (head p) ≡ 1024
  join-empty =
      rw join_is (load-other v₄ _ _ (head p) (λ e. omega arith) ∙ load_same v₃ (head p) 1024 room₃ (omega arith))

  join-end : load (join_at v p t r) (tail p) ≡ head p
  join-end = rw join_is (load_same v₄ (tail p) (head p) room₄ (omega arith))

-- ---- The last row

-- the cell behind a list is the link of its last
ending-last : (k : ℕ) (l : List ℕ) → ending (link k) l ≡ link (last_of k l)
unfolding ending last_of
ending-last k [] = refl
ending-last k (j ∷ l) = ending-last j l

map_last : {A : Type 0} (f : ℕ → A) (k : ℕ) (l : List ℕ) → last_of (f k) (map f l) ≡ f (last_of k l)
unfolding last_of
map_last f k [] = refl
map_last f k (j ∷ l) = map_last f j l

-- ---- The rows

module _ (w : List ℕ) (L : ℕ → List ℕ) (h : Holds w L) (p : ℕ) (hp : p < wsl) (m : List ℕ) (was : L p ≡ first w p ∷ m)
    (hf : first w p < 1024) (w₁ : List ℕ) (ready : Readied w w₁ p) where
  -- the last cell of list p, and the buffer in which both chains are one
  abbrev t : ℕ
  t = load w (tail p)

  abbrev w' : List ℕ
  w' = join_at w₁ p t (first w rel)

  one : Listed w p (first w p ∷ m)
  one = rw was at (h.listed p (omega arith))

  tail-is : t ≡ ending (link (first w p)) m
  unfolding ending
  tail-is = one.last (λ e. omega arith)

  -- it is the link of a row of list p
  last_row : (j : ℕ) × (j < 1024) × (load w (place j) ≡ p) × (t ≡ link j)
  unfolding occurs
  last_row = go (ends (link (first w p)) m)
    where
      own : (j : ℕ) → 1 ≤ occurs j (first w p ∷ m) → t ≡ link j → (j : ℕ) × (j < 1024) × (load w (place j) ≡ p) × (t ≡ link j)
      own j o e = let r = row_of w p [] _ one j o in (j, r.0, r.1, e)

      go : EndsAt (link (first w p)) m → (j : ℕ) × (j < 1024) × (load w (place j) ≡ p) × (t ≡ link j)
      go (start e) = own (first w p) (omega (arith, same_refl (first w p) (first w p) refl)) (tail-is ∙ e)
      go (behind j o e) = own j (omega arith) (tail-is ∙ e)

  low-t : links ≤ t
  low-t = let r = last_row in omega (arith, r.3)

  high-t : t < heads
  high-t = let r = last_row in omega (arith, r.3, r.1)

  -- the link of a row of another list is another cell
  t-other : (j : ℕ) → j < 1024 → load w (place j) ≢ p → link j ≢ t
  t-other j hj d e =
      let r = last_row in
      d (ap (λ (x : ℕ). load w (place x)) (omega (arith, r.3)) ∙ r.2)

  room-w₁ : 16384 ≤ length w₁
  room-w₁ = omega (arith, ready.size, h.room)

  -- links, heads and tails were not touched when the rows were made ready
  upper : (i : ℕ) → links ≤ i → load w₁ i ≡ load w i
  upper i g = ready.kept i (λ k hk e. omega arith) (λ k hk e. omega arith)

  whole_is : join_ready w₁ p ≡ w'
  unfolding join_ready
  whole_is = rw (upper (tail p) (omega arith), upper (head rel) (omega arith))

  whole_room : 16384 ≤ length w'
  whole_room = join-room w₁ p t (first w rel) room-w₁ hp low-t high-t

  -- links, heads and tails
  cells-kept : (i : ℕ) → links ≤ i → i ≢ t → i ≢ head rel → i ≢ tail rel → i ≢ head p → i ≢ tail p → load w' i ≡ load w i
  cells-kept i g a b c d e =
      join-other w₁ p t (first w rel) room-w₁ hp low-t high-t i a b c d e ∙ upper i g

  link-kept : (j : ℕ) → j < 1024 → link j ≢ t → load w' (link j) ≡ load w (link j)
  link-kept j hj d =
      cells-kept (link j) (omega arith) d (λ e. omega arith) (λ e. omega arith) (λ e. omega arith) (λ e. omega arith)

  -- what stands before the links
  lower : (i : ℕ) → i < links → load w' i ≡ load w₁ i
  lower i g =
      join-other w₁ p t (first w rel) room-w₁ hp low-t high-t i (λ e. omega (arith, low-t)) (λ e. omega arith) (λ e. omega arith)
      (λ e. omega arith) (λ e. omega arith)

  place-own : (k : ℕ) → k < 1024 → load w (place k) ≡ p → load w' (place k) ≡ rel
  unfolding ready_place
  place-own k hk e = lower (place k) (omega arith) ∙ ready.places k hk ∙ rw eq-eqb

  place_other : (k : ℕ) → k < 1024 → load w (place k) ≢ p → load w' (place k) ≡ load w (place k)
  unfolding ready_place
  place_other k hk d = lower (place k) (omega arith) ∙ ready.places k hk ∙ rw (ne_eqb _ p d)

  -- all fields but the standing
  field-kept : (k f : ℕ) → k < 1024 → f < data_fields → f ≢ 1 → read w' f k ≡ read w f k
  field-kept k f hk g d =
      lower (field_at f k) (omega arith) ∙ ready.kept (field_at f k) (λ j hj e. omega arith) (λ j hj e. d (omega arith))

  standing-own : (k : ℕ) → k < 1024 → load w (place k) ≡ p → read w' 1 k ≡ read w 1 k / 2 * 2 + 1
  unfolding ready_standing
  standing-own k hk e = lower (field_at 1 k) (omega arith) ∙ ready.standings k hk ∙ rw eq-eqb

  standing-other : (k : ℕ) → k < 1024 → load w (place k) ≢ p → read w' 1 k ≡ read w 1 k
  unfolding ready_standing
  standing-other k hk d = lower (field_at 1 k) (omega arith) ∙ ready.standings k hk ∙ rw (ne_eqb _ p d)

  row_kept : (k : ℕ) → k < 1024 → load w (place k) ≢ p → SameRow w w' k
  row_kept k hk d f g = go (ℕ_discrete f 1)
    where
      go : Dec (f ≡ 1) → read w' f k ≡ read w f k
      go (yes e) = rw e (standing-other k hk d)
      go (no n) = field-kept k f hk g n

  row-marked : (k : ℕ) → k < 1024 → load w (place k) ≡ p → transaction_at w' k ≡ with_returning true (transaction_at w k)
  unfolding transaction_at time_of
  row-marked k hk e =
      let half : (read w 1 k / 2 * 2 + 1) / 2 ≡ read w 1 k / 2 = omega arith in
      let rest : (read w 1 k / 2 * 2 + 1) % 2 ≡ 1 = omega arith in
      rw (
        field-kept k 0 hk (omega arith) (λ e. omega arith),
        standing-own k hk e,
        field-kept k 2 hk (omega arith) (λ e. omega arith),
        field-kept k 3 hk (omega arith) (λ e. omega arith),
        field-kept k 4 hk (omega arith) (λ e. omega arith),
        field-kept k 5 hk (omega arith) (λ e. omega arith),
        field-kept k 6 hk (omega arith) (λ e. omega arith),
        field-kept k 7 hk (omega arith) (λ e. omega arith),
        field-kept k 8 hk (omega arith) (λ e. omega arith),
        field-kept k 9 hk (omega arith) (λ e. omega arith),
        field-kept k 10 hk (omega arith) (λ e. omega arith),
        half,
        rest,
      )

  -- ---- REL

  on-q : (q : ℕ) → q < list_count → (j : ℕ) → 1 ≤ occurs j (L q) → (j < 1024) × (load w (place j) ≡ q)
  on-q q hq j o = row_of w q [] _ (h.listed q hq) j o

  rel-rows : Listed w rel (L rel)
  rel-rows = h.listed rel (omega arith)

  abbrev joined : List ℕ
  joined = (first w p ∷ m) ++ L rel

  after-t : Chain w' t (L rel)
  after-t =
      chain-moved w w' (head rel) t (L rel)
      (join-cell w₁ p t (first w rel) room-w₁ hp low-t high-t)
      (λ j o. let r = on-q rel (omega arith) j o in link-kept j r.0 (t-other j r.0 (λ e. omega (arith, r.1))))
      (rel-rows.chain (λ e. omega arith))

  rel-chain : Chain w' (head rel) joined
  unfolding Chain occurs
  rel-chain = (
    join_first w₁ p t (first w rel) room-w₁ hp low-t high-t ∙ upper (head p) (omega arith),
    hf,
    chain-joined w w' (link (first w p)) m [] (L rel)
        (λ j o e. absurd (omega (arith, at-most-once w p [] _ one j, same_refl j (first w p) (omega arith))))
        (λ j. omega (arith, at-most-once w p [] _ one j))
        (λ n. link-kept _ hf (λ e. n (e ∙ tail-is)))
        (λ j o n. link-kept j (row_of w p [] _ one j (omega arith)).0 (λ e. n (e ∙ tail-is)))
        (rw append-nil (one.chain (λ e. omega arith)).2)
        (subst (λ (x : ℕ). Chain w' x (L rel)) tail-is after-t),
  )

  behind-t : (l : List ℕ) → ending (head rel) ((first w p ∷ m) ++ l) ≡ ending t l
  unfolding ending
  behind-t l = ending-append (link (first w p)) m l ∙ ap (λ (x : ℕ). ending x l) (sym tail-is)

  rel-last : load w' (tail rel) ≡ ending (head rel) joined
  unfolding ending
  rel-last = go (first_of w rel (L rel) (λ e. omega arith) rel-rows)
    where
      go : First w rel (L rel) → load w' (tail rel) ≡ ending (head rel) joined
      go (none e n) =
          join-tail-none w₁ p t (first w rel) room-w₁ hp low-t high-t n ∙ sym (behind-t (L rel) ∙ ap (ending t) e)
      go (some l e n) =
          join-tail-row w₁ p t (first w rel) room-w₁ hp low-t high-t n
          ∙ upper (tail rel) (omega arith)
          ∙ rel-rows.last (λ f. omega arith)
          ∙ ap (ending (head rel)) e
          ∙ sym (behind-t (L rel) ∙ ap (ending t) e)

  rel-row : (k : ℕ) → 1 ≤ occurs k joined → k < 1024
  rel-row k o = go (occurs k (L rel)) refl
    where
      go : (n : ℕ) → occurs k (L rel) ≡ n → k < 1024
      go zero e = one.row k (omega (arith, occurs-append k (first w p ∷ m) (L rel)))
      go (suc n) e = rel-rows.row k (omega arith)

  rel-once : (k : ℕ) → k < 1024 → occurs k joined ≡ same (load w' (place k)) rel
  rel-once k hk = go (ℕ_discrete (load w (place k)) p)
    where
      go : Dec (load w (place k) ≡ p) → occurs k joined ≡ same (load w' (place k)) rel
      go (yes e) =
          omega (
            arith,
            occurs-append k (first w p ∷ m) (L rel),
            one.once k hk,
            rel-rows.once k hk,
            same_refl _ p e,
            same-other (load w (place k)) rel (λ f. omega arith),
            same_refl _ rel (place-own k hk e),
          )
      go (no d) =
          omega (
            arith,
            occurs-append k (first w p ∷ m) (L rel),
            one.once k hk,
            rel-rows.once k hk,
            same-other _ p d,
            ap (λ (x : ℕ). same x rel) (place_other k hk d),
          )

  rel-listed : Listed w' rel joined
  rel-listed =
      record {
        chain = λ g. rel-chain;
        last = λ g. rel-last;
        heap = λ g. absurd (omega arith);
        row = rel-row;
        once = rel-once;
      }

  -- ---- List p

  left-once : (k : ℕ) → k < 1024 → occurs k [] ≡ same (load w' (place k)) p
  unfolding occurs
  left-once k hk = go (ℕ_discrete (load w (place k)) p)
    where
      go : Dec (load w (place k) ≡ p) → 0 ≡ same (load w' (place k)) p
      go (yes e) = sym (same-other _ p (λ f. omega (arith, place-own k hk e)))
      go (no d) = sym (same-other _ p (λ f. d (sym (place_other k hk d) ∙ f)))

  left-listed : Listed w' p []
  unfolding Chain ending occurs
  left-listed =
      record {
        chain = λ g. omega (arith, join-empty w₁ p t (first w rel) room-w₁ hp low-t high-t);
        last = λ g. join-end w₁ p t (first w rel) room-w₁ hp low-t high-t;
        heap = λ g. absurd (omega arith);
        row = λ k o. absurd (omega arith);
        once = left-once;
      }

  -- ---- The other lists

  module _ (q : ℕ) (hq : q < list_count) (d : q ≢ p) (e : q ≢ rel) where
    theirs : (j : ℕ) → load w (place j) ≡ q → load w (place j) ≢ p
    theirs j at f = d (sym at ∙ f)

    their-chain : q ≢ fel → Chain w' (head q) (L q)
    their-chain g =
        chain-moved w w' _ _ _
        (cells-kept (head q) (omega arith) (λ f. omega (arith, high-t)) (λ f. e (omega arith)) (λ f. omega arith) (λ f. d (omega arith))
        (λ f. omega arith))
        (λ j o. let r = on-q q hq j o in link-kept j r.0 (t-other j r.0 (theirs j r.1)))
        ((h.listed q hq).chain g)

    their-last : load w' (tail q) ≡ load w (tail q)
    their-last =
        cells-kept (tail q) (omega arith) (λ f. omega (arith, high-t)) (λ f. omega arith) (λ f. e (omega arith)) (λ f. omega arith)
        (λ f. d (omega arith))

    came : (r : ℕ) → r < 1024 → load w' (place r) ≡ q → load w (place r) ≡ q
    came r hr at = go (ℕ_discrete (load w (place r)) p)
      where
        go : Dec (load w (place r) ≡ p) → load w (place r) ≡ q
        go (yes f) = absurd (e (sym at ∙ place-own r hr f))
        go (no f) = sym (place_other r hr f) ∙ at

    their-once : (k : ℕ) → k < 1024 → occurs k (L q) ≡ same (load w' (place k)) q
    their-once k hk = (h.listed q hq).once k hk ∙ go (ℕ_discrete (load w (place k)) p)
      where
        go : Dec (load w (place k) ≡ p) → same (load w (place k)) q ≡ same (load w' (place k)) q
        go (yes f) =
            same-other _ q (λ at. theirs k at f) ∙ sym (same-other _ q (λ at. theirs k (came k hk at) f))
        go (no f) = ap (λ (x : ℕ). same x q) (sym (place_other k hk f))

    unread : q ≡ fel → Unread w w' (length (L q))
    unread g =
        record {
          heads =
              cells-kept (head fel) (omega arith) (λ f. omega (arith, high-t)) (λ f. omega arith) (λ f. omega arith) (λ f. omega arith)
              (λ f. omega arith);
          tails =
              cells-kept (tail fel) (omega arith) (λ f. omega (arith, high-t)) (λ f. omega arith) (λ f. omega arith) (λ f. omega arith)
              (λ f. omega arith);
          slots = λ i hi. lower _ (omega (arith, few)) ∙ ready.kept _ (λ k hk f. omega (arith, few)) (λ k hk f. omega (arith, few));
          stay = λ r hr at. place_other r hr (theirs r (at ∙ sym g)) ∙ at;
          were = λ r hr at. came r hr (at ∙ sym g) ∙ g;
          links = λ r hr at. link-kept r hr (t-other r hr (theirs r (at ∙ sym g)));
          order = λ x y hx hy a b. sooner-rows w w' x y (row_kept x hx (theirs x (a ∙ sym g))) (row_kept y hy (theirs y (b ∙ sym g)));
        }
      where
        few : length (L q) ≤ 1024
        few = short w q _ (h.listed q hq)

    other-listed : Listed w' q (L q)
    other-listed =
        record {
          chain = their-chain;
          last = λ g. their-last ∙ (h.listed q hq).last g;
          heap = λ g. heaped-kept w w' _ (unread g) ((h.listed q hq).heap g);
          row = (h.listed q hq).row;
          once = their-once;
        }

  -- ---- All lists

  abbrev lists-after : ℕ → List ℕ
  lists-after = update rel joined (update p [] L)

  whole-holds : Holds w' lists-after
  whole-holds = record { room = whole_room; listed = λ q hq. go q hq _ refl _ refl }
    where
      go : (q : ℕ) → q < list_count → (a : Bool) → eqb q rel ≡ a → (b : Bool) → eqb q p ≡ b → Listed w' q (cond a joined (cond b [] (L q)))
      go q hq true e b f = rw (eqb-true q rel e) rel-listed
      go q hq false e true f = subst (λ (x : ℕ). Listed w' x []) (sym (eqb-true q p f)) left-listed
      go q hq false e false f = other-listed q hq (eqb-false q p f) (eqb-false q rel e)

  -- ---- The rows on no list, and the free ones

  whole-count : loose w' ≡ loose w
  unfolding loose
  whole-count = sum_ext 1024 _ _ (λ k hk. go k hk (ℕ_discrete (load w (place k)) p))
    where
      go : (k : ℕ) → k < 1024 → Dec (load w (place k) ≡ p) → off w' k ≡ off w k
      go k hk (yes e) = off-placed w' k (omega (arith, place-own k hk e)) ∙ sym (off-placed w k (omega arith))
      go k hk (no d) = ap (λ (x : ℕ). cond (ltb x list_count) 0 1) (place_other k hk d)

  whole-steady : Steady w w'
  whole-steady =
      record {
        loose = λ k l. record { row = l.row; off = place_other k l.row (away k l) ∙ l.off };
        same = λ k l. row_kept k l.row (away k l);
        count = whole-count;
        frees = λ k hk. spare k hk (ℕ_discrete (load w (place k)) p);
      }
    where
      away : (k : ℕ) → Loose w k → load w (place k) ≢ p
      away k l e = omega (arith, l.off)

      spare : (k : ℕ) → k < 1024 → Dec (load w (place k) ≡ p) → eqb (load w' (place k)) free ≡ eqb (load w (place k)) free
      spare k hk (yes e) =
          ne_eqb (load w' (place k)) free (λ f. omega (arith, place-own k hk e)) ∙ sym (ne_eqb (load w (place k)) free (λ f. omega arith))
      spare k hk (no d) = ap (λ (x : ℕ). eqb x free) (place_other k hk d)

  -- ---- The machine's lists

  list-kept : (q : ℕ) → q < list_count → q ≢ p → map (transaction_at w') (L q) ≡ map (transaction_at w) (L q)
  list-kept q hq d =
      map-kept _ _ (L q) (λ j o. let r = on-q q hq j o in transaction-kept w w' j (row_kept j r.0 (λ f. d (sym r.1 ∙ f))))

  future-kept : map (event_at w') (L fel) ≡ map (event_at w) (L fel)
  future-kept =
      map-kept _ _ (L fel) (λ j o. let r = on-q fel (omega arith) j o in event-kept w w' j (row_kept j r.0 (λ f. omega (arith, r.1))))

  list-marked : map (transaction_at w') (first w p ∷ m) ≡ map (with_returning true) (map (transaction_at w) (first w p ∷ m))
  list-marked =
      map-kept _ (λ j. with_returning true (transaction_at w j)) (first w p ∷ m)
      (λ j o. let r = row_of w p [] _ one j o in row-marked j r.0 r.1)
      ∙ sym (map-map (with_returning true) (transaction_at w) (first w p ∷ m))

  module _ (T : ℕ → List Transaction) (E : List Event) (s : Shown w L T E) (sorted : Sorted precedes (T p))
      (leads : first w rel < 1024 → outranks w (t - links) (first w rel) ≡ true) where
    abbrev tx : ℕ → Transaction
    tx = transaction_at w

    list-p : T p ≡ tx (first w p) ∷ map tx m
    list-p = sym (s.lists p (omega arith)) ∙ ap (map tx) was

    last-is : last_of (tx (first w p)) (map tx m) ≡ tx (t - links)
    last-is =
        let e : last_of (first w p) m ≡ t - links = omega (arith, tail-is, ending-last (first w p) m) in
        map_last tx (first w p) m ∙ ap tx e

    last-first : Leads (last_of (tx (first w p)) (map tx m)) (T rel)
    unfolding Leads
    last-first = go (first_of w rel (L rel) (λ e. omega arith) rel-rows)
      where
        go : First w rel (L rel) → Leads (last_of (tx (first w p)) (map tx m)) (T rel)
        go (none e n) =
            subst (λ (l : List Transaction). Leads (last_of (tx (first w p)) (map tx m)) l)
            (ap (map tx) (sym e) ∙ s.lists rel (omega arith)) tt
        go (some l e n) =
            subst (λ (l : List Transaction). Leads (last_of (tx (first w p)) (map tx m)) l)
            (ap (map tx) (sym e) ∙ s.lists rel (omega arith))
            (ap (λ (x : Transaction). precedes x (tx (first w rel))) last-is ∙ sym (outranks-is w (t - links) (first w rel)) ∙ leads n)

    rel-shown : map (transaction_at w') joined ≡ wake (T p) (T rel)
    rel-shown =
        map-append (transaction_at w') (first w p ∷ m) (L rel)
        ∙ ap (λ (l : List Transaction). l ++ map (transaction_at w') (L rel)) list-marked
        ∙ ap (λ (l : List Transaction). map (with_returning true) (map tx (first w p ∷ m)) ++ l)
        (list-kept rel (omega arith) (λ e. omega arith) ∙ s.lists rel (omega arith))
        ∙ sym (wake-before (tx (first w p)) (map tx m) (T rel) (rw list-p at sorted) last-first)
        ∙ ap (λ (l : List Transaction). wake l (T rel)) (sym list-p)

    whole-shown : Shown w' lists-after (moved p [] (wake (T p) (T rel)) T) E
    whole-shown =
        record {
          holds = whole-holds;
          lists = λ q hq. go q hq _ refl _ refl;
          future = ap (map (event_at w')) fel-rows ∙ future-kept ∙ s.future;
        }
      where
        fel-rows : lists-after fel ≡ L fel
        fel-rows = update_other rel joined (update p [] L) fel (λ e. omega arith) ∙ update_other p [] L fel (λ e. omega arith)

        go : (q : ℕ) → q < fel → (a : Bool) → eqb q rel ≡ a → (b : Bool) → eqb q p ≡ b
            → map (transaction_at w') (cond a joined (cond b [] (L q))) ≡ cond a (wake (T p) (T rel)) (cond b [] (T q))
        go q hq true e b f = rel-shown
        go q hq false e true f = refl
        go q hq false e false f = list-kept q (omega arith) (eqb-false q p f) ∙ s.lists q hq

-- ---- The law

-- a whole list goes to REL, before all who are there
pub whole-wakes : (w : List ℕ) (T : ℕ → List Transaction) (E : List Event) → Shows w T E → (p : ℕ) → p < wsl
    → Sorted precedes (T p)
    → first w p < 1024
    → (first w rel < 1024 → outranks w (load w (tail p) - links) (first w rel) ≡ true)
    → (w₁ : List ℕ) → Readied w w₁ p
    → Wakes w (join_ready w₁ p) (moved p [] (wake (T p) (T rel)) T) E
whole-wakes w T E s p hp sorted hf leads w₁ ready =
    let h = s.shown.holds in
    let r = rows-first w s.rows T E s.shown p (omega arith) (λ e. omega arith) hf in
    rw (whole_is w s.rows h p hp r.0 r.1 hf w₁ ready)
    (record {
      shows =
          record {
            rows = _;
            shown = whole-shown w s.rows h p hp r.0 r.1 hf w₁ ready T E s.shown sorted leads;
            ordered =
                ordered-moved order_of T E p [] _ (sorted-line p hp []) (wake-sorted (T p) (T rel) (s.ordered.lists rel (omega arith)))
                s.ordered;
          };
      steady = whole-steady w s.rows h p hp r.0 r.1 hf w₁ ready;
    })
