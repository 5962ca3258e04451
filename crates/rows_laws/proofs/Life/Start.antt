-- The start of a run: whatever the buffer held, every list is empty and every row is free.
use Rattle.machine.specs.All.{ℕ, zero, suc, ◌≤◌, ◌<◌, ◌≡◌, refl, sym, ◌∙◌, ◌≢◌, List, [], arith, ℕ_discrete, length, Transaction, Event}
use Rattle.rows_laws.specs.All.{place, head, tail, fel, free, nowhere, links, list_count, load, store, empty_list, empty_lists, empty_fel, loose_rows, free_row, free_rows, initial, loose, occurs, Chain, ending, Heaped, Listed, update, top, Sorted, Shown, Held, Shows, Loose}
use Rattle.rows_laws.proofs.{Buffer.Store.length-store, Buffer.Store.load_same, Buffer.Store.load-other, Counting.Occurs.same-other, Counting.Sums.sum-zero, Chains.InsertRemove.Kept, Counting.LooseRows.off, Counting.LooseRows.off-placed, Life.Making.free-keeps, Life.Making.free-placed, Life.Making.free-shown}
use mathlib.Core.List.{◌∷◌}

-- ---- Empty lists

module _ (w : List ℕ) (room : 16384 ≤ length w) where
  room-empty : (n : ℕ) → 16384 ≤ length (empty_lists n w)
  unfolding empty_lists empty_list
  room-empty zero = room
  room-empty (suc n) =
      rw (length-store (store (empty_lists n w) (head n) 1024) (tail n) (head n), length-store (empty_lists n w) (head n) 1024) (room-empty n)

  abbrev Emptied : ℕ → ℕ → Type 0
  Emptied n p = (load (empty_lists n w) (head p) ≡ 1024) × (load (empty_lists n w) (tail p) ≡ head p)

  emptied : (n : ℕ) → n ≤ list_count → (p : ℕ) → p < n → Emptied n p
  unfolding empty_lists empty_list
  emptied zero hn p h = absurd (omega arith)
  emptied (suc n) hn p h = go (ℕ_discrete p n) (emptied n (omega arith) p)
    where
      v : List ℕ
      v = store (empty_lists n w) (head n) 1024

      room-v : 16384 ≤ length (store (empty_lists n w) (head n) 1024)
      room-v = rw (length-store (empty_lists n w) (head n) 1024) (room-empty n)

      go : Dec (p ≡ n) → (p < n → Emptied n p) → Emptied (suc n) p
      go (yes e) rest = (
        rw e
            (load-other (store (empty_lists n w) (head n) 1024) (tail n) (head n) (head n) (λ q. omega arith)
            ∙ load_same (empty_lists n w) (head n) 1024 (room-empty n) (omega arith)),
        rw e (load_same (store (empty_lists n w) (head n) 1024) (tail n) (head n) room-v (omega arith)),
      )
      go (no d) rest =
          let l : p < n = omega arith in (
            load-other (store (empty_lists n w) (head n) 1024) (tail n) (head n) (head p) (λ q. omega arith)
                ∙ load-other (empty_lists n w) (head n) 1024 (head p) (λ q. d (omega arith))
                ∙ (rest l).0,
            load-other (store (empty_lists n w) (head n) 1024) (tail n) (head n) (tail p) (λ q. d (omega arith))
                ∙ load-other (empty_lists n w) (head n) 1024 (tail p) (λ q. omega arith)
                ∙ (rest l).1,
          )

-- ---- Rows on no list

module _ (w : List ℕ) (room : 16384 ≤ length w) where
  room_loosen : (n : ℕ) → 16384 ≤ length (loose_rows n w)
  unfolding loose_rows
  room_loosen zero = room
  room_loosen (suc n) = rw (length-store (loose_rows n w) (place n) nowhere) (room_loosen n)

  loosen-kept : (n : ℕ) → n ≤ 1024 → (i : ℕ) → links ≤ i → load (loose_rows n w) i ≡ load w i
  unfolding loose_rows
  loosen-kept zero hn i h = refl
  loosen-kept (suc n) hn i h = load-other (loose_rows n w) (place n) nowhere i (λ e. omega arith) ∙ loosen-kept n (omega arith) i h

  loosened : (n : ℕ) → n ≤ 1024 → (k : ℕ) → k < n → load (loose_rows n w) (place k) ≡ nowhere
  unfolding loose_rows
  loosened zero hn k h = absurd (omega arith)
  loosened (suc n) hn k h = go (ℕ_discrete k n) (loosened n (omega arith) k)
    where
      go : Dec (k ≡ n) → (k < n → load (loose_rows n w) (place k) ≡ nowhere)
          → load (store (loose_rows n w) (place n) nowhere) (place k) ≡ nowhere
      go (yes e) rest = rw e (load_same (loose_rows n w) (place n) nowhere (room_loosen n) (omega arith))
      go (no d) rest =
          let l : k < n = omega arith in
          load-other (loose_rows n w) (place n) nowhere (place k) (λ q. d (omega arith)) ∙ rest l

-- ---- All lists empty

module _ (w : List ℕ) (room : 16384 ≤ length w) where
  abbrev u : List ℕ
  u = empty_fel (empty_lists list_count w)

  room-u : 16384 ≤ length u
  room-u = rw (length-store (empty_lists list_count w) (tail fel) 0) (room-empty w room list_count)

  abbrev v : List ℕ
  v = loose_rows 1024 u

  room-v : 16384 ≤ length v
  room-v = room_loosen u room-u 1024

  all-loose : (k : ℕ) → k < 1024 → Loose v k
  all-loose k hk = record { row = hk; off = loosened u room-u 1024 (omega arith) k hk }

  head-empty : (p : ℕ) → p < list_count → load v (head p) ≡ 1024
  head-empty p hp =
      loosen-kept u room-u 1024 (omega arith) (head p) (omega arith)
      ∙ load-other (empty_lists list_count w) (tail fel) 0 (head p) (λ e. omega arith)
      ∙ (emptied w room list_count (omega arith) p hp).0

  tail-empty : (p : ℕ) → p < list_count → p ≢ fel → load v (tail p) ≡ head p
  tail-empty p hp d =
      loosen-kept u room-u 1024 (omega arith) (tail p) (omega arith)
      ∙ load-other (empty_lists list_count w) (tail fel) 0 (tail p) (λ e. d (omega arith))
      ∙ (emptied w room list_count (omega arith) p hp).1

  fel-empty : Heaped v 0
  unfolding top
  fel-empty =
      record {
        many =
            loosen-kept u room-u 1024 (omega arith) (tail fel) (omega arith)
            ∙ load_same (empty_lists list_count w) (tail fel) 0 (room-empty w room list_count) (omega arith);
        first = head-empty fel (omega arith);
        seat = λ i hi. absurd (omega arith);
        seated = λ r hr at. absurd (omega (arith, (all-loose r hr).off));
        order = λ i p hi. absurd (omega arith);
      }

  empty-listed : (p : ℕ) → p < list_count → Listed v p []
  unfolding Chain ending occurs
  empty-listed p hp =
      record {
        chain = λ d. omega (arith, head-empty p hp);
        last = λ d. tail-empty p hp d;
        heap = λ e. fel-empty;
        row = λ k m. absurd (omega arith);
        once = λ k hk. sym (same-other (load v (place k)) p (λ e. omega (arith, (all-loose k hk).off)));
      }

  nothing-shown : Shown v (λ p. []) (λ p. []) []
  nothing-shown =
      record {
        holds = record { room = room-v; listed = empty-listed };
        lists = λ p hp. refl;
        future = refl;
      }

-- ---- All rows free

-- what freeing rows 0..n - 1 leaves
record Freed (w : List ℕ) (n : ℕ) (T : ℕ → List Transaction) (E : List Event) : Type 0 where
  held : Held (free_rows n w) T E
  loose : (j : ℕ) → n ≤ j → j < 1024 → Loose (free_rows n w) j
  placed : (j : ℕ) → j < n → load (free_rows n w) (place j) < list_count

freed : (w : List ℕ) (L : ℕ → List ℕ) (T : ℕ → List Transaction) (E : List Event) → Shown w L T E → ((k : ℕ) → k < 1024 → Loose w k)
    → (n : ℕ) → n ≤ 1024
    → Freed w n T E
unfolding free_rows
freed w L T E s off zero hn =
    record { held = record { rows = L; shown = s }; loose = λ j a b. off j b; placed = λ j h. absurd (omega arith) }
freed w L T E s off (suc n) hn = go (freed w L T E s off n (omega arith))
  where
    go : Freed w n T E → Freed w (suc n) T E
    go f =
        record {
          held = record {
            rows = update free (n ∷ f.held.rows free) f.held.rows;
            shown = free-shown u f.held.rows T E f.held.shown n free-n;
          };
          loose = λ j a b. record { row = b; off = keeps.places j b (λ e. omega arith) ∙ (f.loose j (omega arith) b).off };
          placed = λ j h. here j h (ℕ_discrete j n);
        }
      where
        u : List ℕ
        u = free_rows n w

        free-n : Loose (free_rows n w) n
        free-n = f.loose n (omega arith) (omega arith)

        keeps : Kept (free_rows n w) (free_row (free_rows n w) n) n
        keeps = free-keeps (free_rows n w) f.held.rows T E f.held.shown n free-n

        here : (j : ℕ) → j < suc n → Dec (j ≡ n) → load (free_row (free_rows n w) n) (place j) < list_count
        here j h (yes e) =
            rw e (omega (arith, free-placed (free_rows n w) f.held.rows T E f.held.shown n free-n))
        here j h (no d) =
            let l : j < n = omega arith in
            rw (keeps.places j (omega arith) d) (f.placed j l)

-- ---- The start

module _ (w : List ℕ) (room : 16384 ≤ length w) where
  start : Freed (v w room) 1024 (λ p. []) []
  start = freed (v w room) (λ p. []) (λ p. []) [] (nothing-shown w room) (all-loose w room) 1024 (omega arith)

  pub initial-shows : Shows (initial w) (λ p. []) []
  unfolding initial Sorted
  initial-shows =
      record { rows = start.held.rows; shown = start.held.shown; ordered = record { lists = λ p hp. tt; future = tt } }

  pub initial-loose : loose (initial w) ≡ 0
  unfolding initial loose
  initial-loose =
      sum-zero 1024 (off (free_rows 1024 (v w room))) (λ k h. off-placed (free_rows 1024 (v w room)) k (start.placed k h))
