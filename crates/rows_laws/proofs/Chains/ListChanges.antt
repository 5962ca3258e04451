-- Insertion and removal at a cell change one list, by the structural law.
use Rattle.machine.specs.All.{ℕ, ◌+◌, ◌≤◌, ◌<◌, ◌≡◌, refl, sym, ap, ◌∙◌, ◌≢◌, List, [], ◌∷◌, ◌++◌, arith, ℕ_discrete, length}
use Rattle.rows_laws.specs.All.{place, link, head, tail, fel, nowhere, links, list_count, tails, load, insert_at, remove_row, same, occurs, Chain, ending, Listed, update}
use Rattle.rows_laws.proofs as our
use our.Counting.Occurs.{same_refl, same-other, occurs-append, occurs-cons}
use our.Chains.Chain.{chain-moved, chain-after, ending-append}
use our.Chains.StructuralLaw.{Changed, structure, row_of, at-most-once, end_low, end-high, end-not-link}
use our.Chains.CellChanges
use mathlib.Core.Path.{subst}

module _ (w : List ℕ) (p k : ℕ) (a b : List ℕ) (room : 16384 ≤ length w) (hp : p < list_count) (chained : p ≢ fel) (hk : k < 1024) where
  -- row k, on no list, comes behind a
  module _ (one : Listed w p (a ++ b)) (off : load w (place k) ≡ nowhere) where
    abbrev cell : ℕ
    cell = ending (head p) a

    none : occurs k (a ++ b) ≡ 0
    none = one.once k hk ∙ same-other (load w (place k)) p (λ e. omega arith)

    low : links ≤ cell
    low = end_low w p a b one

    high : cell < tails
    high = omega (arith, end-high w p a b one)

    pub apart : cell ≢ link k
    apart e = end-not-link w p a b one k hk (omega (arith, none, occurs-append k a b)) (sym e)

    after : Chain w cell b
    after = chain-after w (head p) a b (one.chain chained)

    kept-link : (j : ℕ) → 1 ≤ occurs j b → load (insert_at w p cell k) (link j) ≡ load w (link j)
    kept-link j m =
        let r : j < 1024 = (row_of w p a b one j (omega (arith, occurs-append j a b))).0 in
        CellChanges.insert-kept w p cell k room hp hk low high apart (link j)
        (end-not-link w p a b one j r (omega (arith, at-most-once w p a b one j, occurs-append j a b)))
        (λ e. let f : j ≡ k = omega arith in omega (arith, none, occurs-append k a b, subst (λ (x : ℕ). 1 ≤ occurs x b) f m))
        (λ e. omega arith) (λ e. omega arith)

    insert-chain : Chain (insert_at w p cell k) cell (k ∷ b)
    unfolding Chain
    insert-chain = (
      CellChanges.insert-cell w p cell k room hp hk low high apart,
      hk,
      chain-moved w (insert_at w p cell k) cell (link k) b (CellChanges.insert-link w p cell k room hp hk low high apart) kept-link after,
    )

    insert-last : (b' : List ℕ) → b ≡ b' → load (insert_at w p cell k) (tail p) ≡ ending cell (k ∷ b')
    unfolding Chain ending
    insert-last [] e =
        CellChanges.insert-tail-none w p cell k room hp hk low high apart (rw e at after)
    insert-last (j ∷ b') e =
        let h : Chain w cell (j ∷ b') = rw e at after in
        CellChanges.insert-tail-row w p cell k room hp hk low high apart (omega (arith, h.0, h.1))
        ∙ one.last chained ∙ ending-append (head p) a b ∙ ap (ending cell) e

    insert-once : (j : ℕ) → j < 1024 → occurs j (a ++ k ∷ b) ≡ same (load (insert_at w p cell k) (place j)) p
    insert-once j hj = go (ℕ_discrete j k)
      where
        go : Dec (j ≡ k) → occurs j (a ++ k ∷ b) ≡ same (load (insert_at w p cell k) (place j)) p
        go (yes e) =
            rw e
            (omega (
              arith,
              occurs-append k a (k ∷ b),
              occurs-cons k k b,
              same_refl k k refl,
              none,
              occurs-append k a b,
              same_refl (load (insert_at w p cell k) (place k)) p (CellChanges.insert-place w p cell k room hp hk low high apart),
            ))
        go (no d) =
            rw
            (CellChanges.insert-kept w p cell k room hp hk low high apart (place j) (λ e. omega (arith, low)) (λ e. omega arith)
            (λ e. d (omega arith)) (λ e. omega arith))
            (omega (arith, occurs-append j a (k ∷ b), occurs-cons j k b, same-other j k d, occurs-append j a b, one.once j hj))

    insert-row : (j : ℕ) → 1 ≤ occurs j (a ++ k ∷ b) → j < 1024
    insert-row j m = go (ℕ_discrete j k)
      where
        go : Dec (j ≡ k) → j < 1024
        go (yes e) = omega arith
        go (no d) = one.row j (omega (arith, occurs-append j a (k ∷ b), occurs-cons j k b, same-other j k d, occurs-append j a b))

    pub insert-changed : Changed w (insert_at w p cell k) p k a b (k ∷ b)
    insert-changed =
        record {
          kept = CellChanges.insert-kept w p cell k room hp hk low high apart;
          apart = omega (arith, none, occurs-append k a b);
          was = λ q hq d e. omega arith;
          is = λ q hq d e. d (sym (sym (CellChanges.insert-place w p cell k room hp hk low high apart) ∙ e));
          chain = insert-chain;
          last = insert-last b refl;
          row = insert-row;
          once = insert-once;
        }

    -- list p has row k behind the rows a, every other list is as before
    pub insert-listed : (L : ℕ → List ℕ) → ((q : ℕ) → q < list_count → Listed w q (L q)) → (q : ℕ) → q < list_count
        → Listed (insert_at w p cell k) q (update p (a ++ k ∷ b) L q)
    insert-listed L listed = structure w (insert_at w p cell k) L listed p k a b (k ∷ b) hp chained hk one insert-changed

  -- row k, behind a, leaves
  module _ (one : Listed w p (a ++ k ∷ b)) where
    abbrev spotted : ℕ
    spotted = ending (head p) a

    r-low : links ≤ spotted
    r-low = end_low w p a (k ∷ b) one

    r-high : spotted < tails
    r-high = omega (arith, end-high w p a (k ∷ b) one)

    -- it occurs there alone
    pub alone : (occurs k a ≡ 0) × (occurs k b ≡ 0)
    alone =
        let h : occurs k a + (1 + occurs k b) ≤ 1 =
        omega (arith, at-most-once w p a (k ∷ b) one k, occurs-append k a (k ∷ b), occurs-cons k k b, same_refl k k refl) in
        (omega (arith, h), omega arith)

    r-after : Chain w spotted (k ∷ b)
    r-after = chain-after w (head p) a (k ∷ b) (one.chain chained)

    pub removed-row : (load w spotted ≡ k) × Chain w (link k) b
    unfolding Chain
    removed-row = (r-after.0, r-after.2)

    r-kept-link : (j : ℕ) → 1 ≤ occurs j b → load (remove_row w p spotted k) (link j) ≡ load w (link j)
    r-kept-link j m =
        let r : j < 1024 = (row_of w p a (k ∷ b) one j (omega (arith, occurs-append j a (k ∷ b), occurs-cons j k b))).0 in
        CellChanges.remove-kept w p spotted k room hp hk r-low r-high (link j)
        (end-not-link w p a (k ∷ b) one j r (omega (arith, at-most-once w p a (k ∷ b) one j, occurs-append j a (k ∷ b), occurs-cons j k b)))
        (λ e. omega arith) (λ e. omega arith)

    remove-chain : Chain (remove_row w p spotted k) spotted b
    remove-chain =
        chain-moved w (remove_row w p spotted k) (link k) spotted b (CellChanges.remove-cell w p spotted k room hp hk r-low r-high) r-kept-link
        removed-row.1

    remove-last : (b' : List ℕ) → b ≡ b' → load (remove_row w p spotted k) (tail p) ≡ ending spotted b'
    unfolding Chain ending
    remove-last [] e =
        CellChanges.remove-tail-none w p spotted k room hp hk r-low r-high (rw e at removed-row.1)
    remove-last (j ∷ b') e =
        let h : Chain w (link k) (j ∷ b') = rw e at removed-row.1 in
        CellChanges.remove-tail-row w p spotted k room hp hk r-low r-high (omega (arith, h.0, h.1))
        ∙ one.last chained ∙ ending-append (head p) a (k ∷ b) ∙ ap (ending (link k)) e

    remove-once : (j : ℕ) → j < 1024 → occurs j (a ++ b) ≡ same (load (remove_row w p spotted k) (place j)) p
    remove-once j hj = go (ℕ_discrete j k)
      where
        go : Dec (j ≡ k) → occurs j (a ++ b) ≡ same (load (remove_row w p spotted k) (place j)) p
        go (yes e) =
            rw e
            (omega (
              arith,
              occurs-append k a b,
              alone.0,
              alone.1,
              same-other (load (remove_row w p spotted k) (place k)) p
                  (λ f. omega (arith, CellChanges.remove-place w p spotted k room hp hk r-low r-high)),
            ))
        go (no d) =
            rw
            (CellChanges.remove-kept w p spotted k room hp hk r-low r-high (place j) (λ e. omega (arith, r-low)) (λ e. d (omega arith))
            (λ e. omega arith))
            (omega (arith, occurs-append j a (k ∷ b), occurs-cons j k b, same-other j k d, occurs-append j a b, one.once j hj))

    pub remove-changed : Changed w (remove_row w p spotted k) p k a (k ∷ b) b
    remove-changed =
        record {
          kept = λ i d e f g. CellChanges.remove-kept w p spotted k room hp hk r-low r-high i d f g;
          apart = alone.0;
          was =
              λ q hq d e.
              d (sym e ∙ (row_of w p a (k ∷ b) one k (omega (arith, occurs-append k a (k ∷ b), occurs-cons k k b, same_refl k k refl))).1);
          is = λ q hq d e. omega (arith, CellChanges.remove-place w p spotted k room hp hk r-low r-high);
          chain = remove-chain;
          last = remove-last b refl;
          row = λ j m. one.row j (omega (arith, occurs-append j a b, occurs-append j a (k ∷ b), occurs-cons j k b));
          once = remove-once;
        }

    -- list p has lost row k from behind the rows a, every other list is as before
    pub remove-listed : (L : ℕ → List ℕ) → ((q : ℕ) → q < list_count → Listed w q (L q)) → (q : ℕ) → q < list_count
        → Listed (remove_row w p spotted k) q (update p (a ++ b) L q)
    remove-listed L listed =
        structure w (remove_row w p spotted k) L listed p k a (k ∷ b) b hp chained hk one remove-changed
