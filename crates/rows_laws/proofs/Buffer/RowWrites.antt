-- Writing the data of a row: the rows of every list stay; and where the row is on none, every list.
use Rattle.machine.specs.All.{ℕ, ◌≤◌, ◌<◌, ◌≡◌, sym, ap, ◌∙◌, ◌≢◌, List, map, arith, Transaction, Event}
use Rattle.rows_laws.specs.All.{data_fields, place, fel, list_count, slots, load, write, transaction_at, event_at, same, occurs, Listed, Holds, Shown, Loose}
use Rattle.rows_laws.proofs as our
use our.{Buffer.Store.length-store, Buffer.Store.load-other, Counting.Occurs.same-other, Chains.Chain.chain-moved, Heap.Slots.sooner-rows, Heap.StaysHeap.Unread, Heap.StaysHeap.heaped-kept}
use our.Buffer.RowData.{SameRow, transaction-kept, event-kept, map-kept}
use lib.ListN.{length}
use Rattle.rows_laws.specs.Layout.{slot, link, head, tail, field_at}

-- another row's fields
pub row_other : (w : List ℕ) (f k x j : ℕ) → k < 1024 → j < 1024 → j ≢ k → SameRow w (write w f k x) j
row_other w f k x j hk hj d g hg = load-other w (field_at f k) x (field_at g j) (λ e. d (omega arith))

module _ (w : List ℕ) (f k x : ℕ) (hf : f < data_fields) where
  write-high : (i : ℕ) → k < 1024 → slots ≤ i → load (write w f k x) i ≡ load w i
  write-high i hk h = load-other w (field_at f k) x i (λ e. omega arith)

  pub write-loose : (j : ℕ) → k < 1024 → Loose w j → Loose (write w f k x) j
  write-loose j hk l = record { row = l.row; off = write-high (place j) hk (omega arith) ∙ l.off }

  -- on whatever list row k stands but the FEL, whose order reads data
  module _ (row : k < 1024) (elsewhere : load w (place k) ≢ fel) where
    unread : (n : ℕ) → Unread w (write w f k x) n
    unread n =
        record {
          heads = write-high (head fel) row (omega arith);
          tails = write-high (tail fel) row (omega arith);
          slots = λ i hi. write-high (slot i) row (omega arith);
          stay = λ r hr at. write-high (place r) row (omega arith) ∙ at;
          were = λ r hr at. sym (write-high (place r) row (omega arith)) ∙ at;
          links = λ r hr at. write-high (link r) row (omega arith);
          order =
              λ y z hy hz a b.
              sooner-rows w (write w f k x) y z (row_other w f k x y row hy (apart y a)) (row_other w f k x z row hz (apart z b));
        }
      where
        apart : (y : ℕ) → load w (place y) ≡ fel → y ≢ k
        apart y at e = elsewhere (ap (λ (z : ℕ). load w (place z)) (sym e) ∙ at)

    write-listed : (q : ℕ) (l : List ℕ) → Listed w q l → Listed (write w f k x) q l
    write-listed q l one =
        record {
          chain =
              λ d. chain-moved w (write w f k x) (head q) (head q) l (write-high (head q) row (omega arith))
              (λ j m. write-high (link j) row (omega arith)) (one.chain d);
          last = λ d. write-high (tail q) row (omega arith) ∙ one.last d;
          heap = λ e. heaped-kept w (write w f k x) (length l) (unread (length l)) (one.heap e);
          row = one.row;
          once = λ j hj. one.once j hj ∙ ap (λ (y : ℕ). same y q) (sym (write-high (place j) row (omega arith)));
        }

    pub write-holds : (L : ℕ → List ℕ) → Holds w L → Holds (write w f k x) L
    write-holds L h =
        record {
          room = rw (length-store w (field_at f k) x) h.room;
          listed = λ q hq. write-listed q (L q) (h.listed q hq);
        }

  module _ (free : Loose w k) where
    -- the rows of a list are others
    others-only : (q : ℕ) (l : List ℕ) → q < list_count → Listed w q l → (j : ℕ) → 1 ≤ occurs j l → (j < 1024) × (j ≢ k)
    others-only q l hq one j m =
        let r : j < 1024 = one.row j m in (
          r,
          λ e.
              omega (
                arith,
                one.once j r,
                same-other (load w (place j)) q (λ g. omega (arith, free.off, ap (λ (y : ℕ). load w (place y)) e)),
              ),
        )

    events-stay : (q : ℕ) (l : List ℕ) → q < list_count → Listed w q l → map (event_at (write w f k x)) l ≡ map (event_at w) l
    events-stay q l hq one =
        map-kept (event_at (write w f k x)) (event_at w) l
        (λ j m.
        let r : (j < 1024) × (j ≢ k) = others-only q l hq one j m in
        event-kept w (write w f k x) j (row_other w f k x j free.row r.0 r.1))

    transactions-stay : (q : ℕ) (l : List ℕ) → q < list_count → Listed w q l
        → map (transaction_at (write w f k x)) l ≡ map (transaction_at w) l
    transactions-stay q l hq one =
        map-kept (transaction_at (write w f k x)) (transaction_at w) l
        (λ j m.
        let r : (j < 1024) × (j ≢ k) = others-only q l hq one j m in
        transaction-kept w (write w f k x) j (row_other w f k x j free.row r.0 r.1))

    -- a loose row is on no list, so that no list shows its data
    pub write-shown : (L : ℕ → List ℕ) (T : ℕ → List Transaction) (E : List Event) → Shown w L T E → Shown (write w f k x) L T E
    write-shown L T E s =
        record {
          holds = write-holds free.row (λ e. omega (arith, free.off)) L s.holds;
          lists = λ q hq. transactions-stay q (L q) (omega arith) (s.holds.listed q (omega arith)) ∙ s.lists q hq;
          future = events-stay fel (L fel) (omega arith) (s.holds.listed fel (omega arith)) ∙ s.future;
        }
