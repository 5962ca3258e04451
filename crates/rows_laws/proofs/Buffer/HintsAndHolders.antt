-- Behind the heads and the tails stand numbers that no list reads, hints and rows of holders: storing one leaves every list.
use Rattle.machine.specs.All.{ℕ, ◌≤◌, ◌<◌, ◌≡◌, refl, sym, ap, ◌∙◌, ◌≢◌, Bool, true, false, cond, List, arith, eqb, Transaction, Event}
use Rattle.rows_laws.specs.All.{place, tail, hint, holder_cell, fel, hints, list_count, load, store, priority_of, note, same, Listed, Holds, Shown}
use Rattle.rows_laws.proofs.{Buffer.Store.length-store, Buffer.Store.load-other, Chains.Chain.chain-moved, Heap.Slots.sooner-kept, Heap.StaysHeap.Unread, Heap.StaysHeap.heaped-kept, Placing.Spot.short, Chains.InsertRemove.Kept, Chains.Showing.transactions-kept, Chains.Showing.events-kept}
use lib.ListN.{length}
use Rattle.rows_laws.specs.Layout.{slot, link, head}

-- ---- Any of them

pub record Aside (c : ℕ) : Type 0 where
  pub low : hints ≤ c
  pub apart : (q : ℕ) → q < list_count → tail q ≢ c

module _ (w : List ℕ) (c x : ℕ) (aside : Aside c) where
  abbrev w₁ : List ℕ
  w₁ = store w c x

  pub aside-below : (i : ℕ) → i < hints → load w₁ i ≡ load w i
  aside-below i h = load-other w c x i (λ e. omega (arith, aside.low))

  tails-kept : (q : ℕ) → q < list_count → load w₁ (tail q) ≡ load w (tail q)
  tails-kept q hq = load-other w c x (tail q) (aside.apart q hq)

  unread : (n : ℕ) → n ≤ 1024 → Unread w w₁ n
  unread n few =
      record {
        heads = aside-below (head fel) (omega arith);
        tails = tails-kept fel (omega arith);
        slots = λ i hi. aside-below (slot i) (omega arith);
        stay = λ r hr at. aside-below (place r) (omega arith) ∙ at;
        were = λ r hr at. sym (aside-below (place r) (omega arith)) ∙ at;
        links = λ r hr at. aside-below (link r) (omega arith);
        order = λ x y hx hy a b. sooner-kept w w₁ (λ i hi. aside-below i (omega arith)) x y hx hy;
      }

  aside-listed : (q : ℕ) (l : List ℕ) → q < list_count → Listed w q l → Listed w₁ q l
  aside-listed q l hq one =
      record {
        chain =
            λ d. chain-moved w w₁ (head q) (head q) l (aside-below (head q) (omega arith))
            (λ j m. aside-below (link j) (omega (arith, one.row j m))) (one.chain d);
        last = λ d. tails-kept q hq ∙ one.last d;
        heap = λ e. heaped-kept w w₁ (length l) (unread (length l) (short w q l one)) (one.heap e);
        row = one.row;
        once = λ j hj. one.once j hj ∙ ap (λ (y : ℕ). same y q) (sym (aside-below (place j) (omega arith)));
      }

  pub aside-holds : (L : ℕ → List ℕ) → Holds w L → Holds w₁ L
  aside-holds L h = record { room = rw (length-store w c x) h.room; listed = λ q hq. aside-listed q (L q) hq (h.listed q hq) }

  pub aside-shown : (L : ℕ → List ℕ) (T : ℕ → List Transaction) (E : List Event) → Shown w L T E → Shown w₁ L T E
  aside-shown L T E s =
      let h : Holds w₁ L = aside-holds L s.holds in
      record {
        holds = h;
        lists = λ q hq. transactions-kept w w₁ q (L q) (λ i hi. aside-below i (omega arith)) (h.listed q (omega arith)) ∙ s.lists q hq;
        future = events-kept w w₁ fel (L fel) (λ i hi. aside-below i (omega arith)) (h.listed fel (omega arith)) ∙ s.future;
      }

pub holder_aside : (v : ℕ) → Aside (holder_cell v)
holder_aside v = record { low = omega arith; apart = λ q hq e. omega arith }

-- ---- Hints

module _ (w : List ℕ) (p k c t : ℕ) where
  abbrev own : ℕ
  own = hint p (priority_of w k)

  hint_aside : Aside own
  hint_aside = record { low = omega arith; apart = λ q hq e. omega arith }

  -- what holds of the buffer without the hint and with it
  noted : (P : List ℕ → Type 0) → P w → P (store w own k) → P (note w p k c t)
  unfolding note
  noted P without with = go (eqb c t)
    where
      go : (b : Bool) → P (cond b w (store w own k))
      go true = without
      go false = with

  note-below : (i : ℕ) → i < hints → load (note w p k c t) i ≡ load w i
  note-below i h = noted (λ v. load v i ≡ load w i) refl (aside-below w own k hint_aside i h)

  pub note-holds : (L : ℕ → List ℕ) → Holds w L → Holds (note w p k c t) L
  note-holds L h = noted (λ v. Holds v L) h (aside-holds w own k hint_aside L h)

  -- a hint is stored behind the heads, no row is moved
  pub note-placed : (j : ℕ) → j < 1024 → load (note w p k c t) (place j) ≡ load w (place j)
  note-placed j hj = note-below (place j) (omega arith)

  pub note-keeps : (v : List ℕ) → Kept v w k → Kept v (note w p k c t) k
  note-keeps v kept =
      record {
        rows = λ i h. note-below i (omega arith) ∙ kept.rows i h;
        places = λ j h d. note-below (place j) (omega arith) ∙ kept.places j h d;
      }
