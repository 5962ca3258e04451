-- From the rows of one list to the machine's lists: what is shown after a change of the rows of list p.
use Rattle.machine.specs.All.{ℕ, ◌<◌, ◌≡◌, refl, sym, ap, ◌∙◌, ◌≢◌, Bool, true, false, cond, List, map, arith, eq-eqb, ne_eqb, eqb-true, eqb-false, eqb, Transaction, Event}
use Rattle.rows_laws.specs.All.{fel, free, transaction_at, event_at, Listed, Holds, update, Shown}
use Rattle.rows_laws.proofs.Buffer.RowData.{SameData, same_row, transaction-kept, event-kept, map-kept}

-- ---- Replaced lists

module _ {A : Type 0} (p : ℕ) (l : A) (L : ℕ → A) where
  pub update_same : (q : ℕ) → q ≡ p → update p l L q ≡ l
  update_same q e = rw (eq-eqb q p e)

  pub update_other : (q : ℕ) → q ≢ p → update p l L q ≡ L q
  update_other q d = rw (ne_eqb q p d)

-- ---- The machine's lists

-- only the lists below 770 are read
pub shown_ext : (w : List ℕ) (L : ℕ → List ℕ) (T U : ℕ → List Transaction) (E : List Event) → ((q : ℕ) → q < 770 → T q ≡ U q)
    → Shown w L T E
    → Shown w L U E
shown_ext w L T U E e s =
    record { holds = s.holds; lists = λ q h. s.lists q h ∙ e q h; future = s.future }

-- the data of the rows of a list is the same
pub transactions-kept : (w w' : List ℕ) (q : ℕ) (l : List ℕ) → SameData w w' → Listed w' q l
    → map (transaction_at w') l ≡ map (transaction_at w) l
transactions-kept w w' q l rows one =
    map-kept (transaction_at w') (transaction_at w) l (λ j m. transaction-kept w w' j (same_row w w' j (one.row j m) rows))

pub events-kept : (w w' : List ℕ) (q : ℕ) (l : List ℕ) → SameData w w' → Listed w' q l → map (event_at w') l ≡ map (event_at w) l
events-kept w w' q l rows one =
    map-kept (event_at w') (event_at w) l (λ j m. event-kept w w' j (same_row w w' j (one.row j m) rows))

module _ (w w' : List ℕ) (L : ℕ → List ℕ) (T : ℕ → List Transaction) (E : List Event) (s : Shown w L T E) (p : ℕ) (l : List ℕ)
    (h : Holds w' (update p l L)) (rows : SameData w w') where
  list-kept : (q : ℕ) → q < 770 → q ≢ p → map (transaction_at w') (update p l L q) ≡ T q
  list-kept q hq d =
      transactions-kept w w' q (update p l L q) rows (h.listed q (omega arith))
      ∙ ap (map (transaction_at w)) (update_other p l L q d)
      ∙ s.lists q hq

  future-kept : p ≢ fel → map (event_at w') (update p l L fel) ≡ E
  future-kept d =
      events-kept w w' fel (update p l L fel) rows (h.listed fel (omega arith))
      ∙ ap (map (event_at w)) (update_other p l L fel (λ e. d (sym e)))
      ∙ s.future

  -- where one list has new rows and the data of all rows stayed, that list shows them
  pub shown-list : p < 770 → Shown w' (update p l L) (update p (map (transaction_at w) l) T) E
  shown-list hp =
      record {
        holds = h;
        lists = λ q hq. go q hq (eqb q p) refl;
        future = future-kept (λ e. omega arith);
      }
    where
      go : (q : ℕ) → q < 770 → (t : Bool) → eqb q p ≡ t → map (transaction_at w') (update p l L q) ≡ cond t (map (transaction_at w) l) (T q)
      go q hq true e =
          transactions-kept w w' q (update p l L q) rows (h.listed q (omega arith))
          ∙ ap (map (transaction_at w)) (update_same p l L q (eqb-true q p e))
      go q hq false e = list-kept q hq (eqb-false q p e)

  pub shown-fel : p ≡ fel → Shown w' (update p l L) T (map (event_at w) l)
  shown-fel e =
      record {
        holds = h;
        lists = λ q hq. list-kept q hq (λ f. omega arith);
        future =
            events-kept w w' fel (update p l L fel) rows (h.listed fel (omega arith))
            ∙ ap (map (event_at w)) (update_same p l L fel (sym e));
      }

  -- the free rows are nothing to the machine
  pub shown-free : p ≡ free → Shown w' (update p l L) T E
  shown-free hp =
      record {
        holds = h;
        lists = λ q hq. list-kept q hq (λ f. omega arith);
        future = future-kept (λ e. omega arith);
      }
