-- Waking is the machine's `wake`: the row of a cell goes to REL with its serial and the returning mark. The list that it leaves
-- may be in any order.
use Rattle.machine.specs.All.{ℕ, ◌≤◌, ◌<◌, ◌≡◌, refl, ap, ◌∙◌, subst, ◌≢◌, true, List, ◌∷◌, ◌++◌, map, arith, lt-ltb, Transaction, Event, precedes, with_returning, insert}
use Rattle.rows_laws.specs.All.{place, head, rel, fel, list_count, load, set_returning, outranks, remove_at, wake_row, wake_at, transaction_at, same, occurs, ending, Listed, update, Sorted, Shown, Loose, moved}
use Rattle.rows_laws.proofs as our
use our.{Order.SortedInsertion.insert-sorted, Order.RowOrders.precedes-order, Chains.StructuralLaw.row_of, Chains.StructuralLaw.at-most-once, Buffer.RowWrites.write-shown, Buffer.RowWrites.write-loose, Buffer.FieldWrites.set-returning}
use our.Counting.Occurs.{same_refl, occurs-append, occurs-cons}
use our.Buffer.RowData.{same_row, transaction-kept, map-kept}
use our.Chains.InsertRemove.{Kept, remove_first, remove-holds, remove-keeps, remove-placed}
use our.Chains.Showing.{shown-list, shown_ext, update_same, update_other}
use our.Placing.Put.{put-shown, put_keeps, put-placed}
use our.Life.LooseRowsStay.{Steady, Around, around_trans, kept-around, write-around, around-steady}
use Prim.Native.Nat.{◌+◌, ◌*◌, ◌/◌}
use Rattle.rows_laws.specs.Cells.{read}
use Rattle.rows_laws.specs.Lists.{put}

module _ (w : List ℕ) (L : ℕ → List ℕ) (T : ℕ → List Transaction) (E : List Event) (s : Shown w L T E) (p : ℕ) (hp : p < 449)
    (k : ℕ) (a b : List ℕ) (was : L p ≡ a ++ k ∷ b) where
  abbrev cell : ℕ
  cell = ending (head p) a

  one : Listed w p (a ++ k ∷ b)
  one = rw was at (s.holds.listed p (omega arith))

  pub woken-row : (k < 1024) × (load w (place k) ≡ p)
  woken-row = row_of w p a (k ∷ b) one k (omega (arith, occurs-append k a (k ∷ b), occurs-cons k k b, same_refl k k refl))

  hl : p < list_count
  hl = omega arith

  chained : p ≢ fel
  chained e = omega arith

  -- it leaves its list
  abbrev w₁ : List ℕ
  w₁ = remove_at w p cell

  abbrev T₁ : ℕ → List Transaction
  T₁ = update p (map (transaction_at w) (a ++ b)) T

  kept₁ : Kept w w₁ k
  kept₁ = remove-keeps w L s.holds p k a b hl chained woken-row.0 was

  abbrev L₁ : ℕ → List ℕ
  L₁ = update p (a ++ b) L

  s₁ : Shown w₁ L₁ T₁ E
  s₁ =
      shown-list w w₁ L T E s p (a ++ b) (remove-holds w L s.holds p k a b hl chained woken-row.0 was) kept₁.rows (omega arith)

  loose₁ : Loose w₁ k
  loose₁ =
      record { row = woken-row.0; off = remove-placed w L s.holds p k a b hl chained woken-row.0 was }

  -- it is marked
  abbrev w₂ : List ℕ
  w₂ = set_returning w₁ k 1

  s₂ : Shown w₂ L₁ T₁ E
  s₂ = write-shown w₁ 1 k (read w₁ 1 k / 2 * 2 + 1) (omega arith) loose₁ L₁ T₁ E s₁

  loose₂ : Loose w₂ k
  loose₂ = write-loose w₁ 1 k (read w₁ 1 k / 2 * 2 + 1) (omega arith) k woken-row.0 loose₁

  marked : transaction_at w₂ k ≡ with_returning true (transaction_at w k)
  marked =
      set-returning w₁ k s₁.holds.room woken-row.0 1 (omega arith)
      ∙ ap (with_returning true) (transaction-kept w w₁ k (same_row w w₁ k woken-row.0 kept₁.rows))

  at-cell : load w cell ≡ k
  at-cell = remove_first w L s.holds p k a b hl chained woken-row.0 was

  -- it comes onto REL
  abbrev pub woken : ℕ → List ℕ
  woken = update rel (insert (outranks w₂) k (L₁ rel)) L₁

  pub wake-rows : woken p ≡ a ++ b
  wake-rows =
      update_other rel (insert (outranks w₂) k (L₁ rel)) L₁ p (λ e. omega arith) ∙ update_same p (a ++ b) L p refl

  -- the row of the cell goes to REL by its own serial, with the returning mark
  pub wake-shown : Sorted precedes (T rel)
      → Shown (wake_at w p cell) woken
      (moved p (map (transaction_at w) (a ++ b)) (insert precedes (with_returning true (transaction_at w k)) (T rel)) T) E
  unfolding wake_at wake_row
  wake-shown ready =
      rw (at-cell, lt-ltb k 1024 woken-row.0)
      (shown_ext (put w₂ rel k) woken (update rel (insert precedes (transaction_at w₂ k) (T₁ rel)) T₁)
      (moved p (map (transaction_at w) (a ++ b)) (insert precedes (with_returning true (transaction_at w k)) (T rel)) T) E
      (λ q hq. rw (marked, update_other p (map (transaction_at w) (a ++ b)) T rel (λ e. omega arith)))
      (put-shown w₂ L₁ T₁ E s₂ k loose₂ rel (omega arith)
      (rw (update_other p (map (transaction_at w) (a ++ b)) T rel (λ e. omega arith)) ready)))

  pub wake-ready : Sorted precedes (T rel) → Sorted precedes (insert precedes (with_returning true (transaction_at w k)) (T rel))
  wake-ready ready = insert-sorted precedes precedes-order (with_returning true (transaction_at w k)) (T rel) ready

  pub wake-around : Around w (wake_at w p cell) k
  unfolding wake_at wake_row
  wake-around =
      rw (at-cell, lt-ltb k 1024 woken-row.0)
      (around_trans w w₁ (put w₂ rel k) k (kept-around w w₁ k kept₁)
      (around_trans w₁ w₂ (put w₂ rel k) k (write-around w₁ 1 k (read w₁ 1 k / 2 * 2 + 1) (omega arith) woken-row.0)
      (kept-around w₂ (put w₂ rel k) k (put_keeps w₂ L₁ s₂.holds rel k (omega arith) (λ e. omega arith) loose₂))))

  on-rel : load (wake_at w p cell) (place k) ≡ rel
  unfolding wake_at wake_row
  on-rel = rw (at-cell, lt-ltb k 1024 woken-row.0) (put-placed w₂ L₁ s₂.holds rel k (omega arith) (λ e. omega arith) loose₂)

  pub wake-steady : Steady w (wake_at w p cell)
  wake-steady =
      around-steady w (wake_at w p cell) k woken-row.0 (omega (arith, woken-row.1)) (omega (arith, on-rel)) wake-around

  -- the other rows of its list are the same transactions
  pub wake-others : (j : ℕ) → 1 ≤ occurs j (a ++ b) → (j < 1024) × (j ≢ k)
  wake-others j m = (
    (row_of w p a (k ∷ b) one j (omega (arith, occurs-append j a b, occurs-append j a (k ∷ b), occurs-cons j k b))).0,
    λ e.
        let m' : 1 ≤ occurs k (a ++ b) = subst (λ (x : ℕ). 1 ≤ occurs x (a ++ b)) e m in
        omega (
          arith,
          m',
          at-most-once w p a (k ∷ b) one k,
          occurs-append k a b,
          occurs-append k a (k ∷ b),
          occurs-cons k k b,
          same_refl k k refl,
        ),
  )

  -- waking one row changes no other transaction of its list
  pub wake-same : (l : List ℕ) → ((j : ℕ) → 1 ≤ occurs j l → 1 ≤ occurs j (a ++ b))
      → map (transaction_at (wake_at w p cell)) l ≡ map (transaction_at w) l
  wake-same l part =
      map-kept (transaction_at (wake_at w p cell)) (transaction_at w) l
      (λ j m.
      let o : (j < 1024) × (j ≢ k) = wake-others j (part j m) in transaction-kept w (wake_at w p cell) j (wake-around.same j o.0 o.1))
