-- The structural law of lists: if of the buffer only the cell behind `a`, place and link of row k, and the tail of list p change,
-- then list p goes from `a ++ b` to `a ++ b'`, and every other list stays.
use Rattle.machine.specs.All.{ℕ, zero, suc, ◌≤◌, ◌<◌, ◌≡◌, refl, sym, ap, ◌∙◌, subst, ◌≢◌, Bool, true, false, cond, List, ◌++◌, arith, ℕ_discrete, eqb-true, eqb-false, eqb, length}
use Rattle.rows_laws.specs.All.{place, link, head, tail, fel, links, list_count, load, same, occurs, Chain, ending, Listed, update}
use Rattle.rows_laws.proofs as our
use our.Counting.Occurs.{same-other, same_pos, same-le, occurs-append}
use our.{Buffer.RowData.SameData, Heap.Slots.sooner-kept, Placing.Spot.short, Heap.StaysHeap.Unread, Heap.StaysHeap.heaped-kept}
use our.Chains.Chain.{chain-moved, chain-joined, ending-append, EndsAt, start, behind, ends}
use Rattle.rows_laws.specs.Layout.{slot}

-- what changed: list p from a ++ b to a ++ b', with row k going from place o to place o'
pub record Changed (w w' : List ℕ) (p k : ℕ) (a b b' : List ℕ) : Type 0 where
  pub kept : (i : ℕ) → i ≢ ending (head p) a → i ≢ link k → i ≢ place k → i ≢ tail p → load w' i ≡ load w i
  pub apart : occurs k a ≡ 0
  -- row k was and is on list p or on none
  pub was : (q : ℕ) → q < list_count → q ≢ p → load w (place k) ≢ q
  pub is : (q : ℕ) → q < list_count → q ≢ p → load w' (place k) ≢ q
  pub chain : Chain w' (ending (head p) a) b'
  pub last : load w' (tail p) ≡ ending (ending (head p) a) b'
  pub row : (j : ℕ) → 1 ≤ occurs j (a ++ b') → j < 1024
  pub once : (j : ℕ) → j < 1024 → occurs j (a ++ b') ≡ same (load w' (place j)) p

-- ---- The cell behind the first part of a list

module _ (w : List ℕ) (p : ℕ) (a b : List ℕ) (one : Listed w p (a ++ b)) where
  -- a row of the list is a row, and the list is its place
  pub row_of : (j : ℕ) → 1 ≤ occurs j (a ++ b) → (j < 1024) × (load w (place j) ≡ p)
  row_of j m =
      let r : j < 1024 = one.row j m in
      (r, same_pos (load w (place j)) p (omega (arith, one.once j r)))

  row_of-a : (j : ℕ) → 1 ≤ occurs j a → (j < 1024) × (load w (place j) ≡ p)
  row_of-a j m = row_of j (omega (arith, occurs-append j a b))

  pub at-most-once : (j : ℕ) → occurs j (a ++ b) ≤ 1
  at-most-once j = go (occurs j (a ++ b)) refl
    where
      go : (n : ℕ) → occurs j (a ++ b) ≡ n → occurs j (a ++ b) ≤ 1
      go zero e = omega arith
      go (suc n) e = omega (arith, one.once j (row_of j (omega arith)).0, same-le (load w (place j)) p)

  -- it is the head or the link of a row of a
  pub end_low : links ≤ ending (head p) a
  end_low = go (ends (head p) a)
    where
      go : EndsAt (head p) a → links ≤ ending (head p) a
      go (start e) = omega arith
      go (behind i m e) = omega arith

  pub end-high : ending (head p) a ≤ head p
  end-high = go (ends (head p) a)
    where
      go : EndsAt (head p) a → ending (head p) a ≤ head p
      go (start e) = omega arith
      go (behind i m e) = omega (arith, (row_of-a i m).0)

  pub end-not-head : (q : ℕ) → q ≢ p → head q ≢ ending (head p) a
  end-not-head q d = go (ends (head p) a)
    where
      go : EndsAt (head p) a → head q ≢ ending (head p) a
      go (start e) r = d (omega arith)
      go (behind i m e) r = omega (arith, (row_of-a i m).0)

  -- no link of a row that a does not have
  pub end-not-link : (j : ℕ) → j < 1024 → occurs j a ≡ 0 → link j ≢ ending (head p) a
  end-not-link j hj n = go (ends (head p) a)
    where
      go : EndsAt (head p) a → link j ≢ ending (head p) a
      go (start e) q = omega arith
      go (behind i m e) q =
          let f : i ≡ j = omega arith in
          omega (arith, subst (λ (x : ℕ). 1 ≤ occurs x a) f m)

-- ---- The law

module _ (w w' : List ℕ) (L : ℕ → List ℕ) (listed : (q : ℕ) → q < list_count → Listed w q (L q)) (p k : ℕ) (a b b' : List ℕ)
    (hp : p < list_count) (chained : p ≢ fel) (hk : k < 1024) (one : Listed w p (a ++ b)) (ch : Changed w w' p k a b b') where
  -- every other list stays
  module _ (q : ℕ) (hq : q < list_count) (d : q ≢ p) where
    on-q : (j : ℕ) → 1 ≤ occurs j (L q) → (j < 1024) × (load w (place j) ≡ q)
    on-q j m =
        let r : j < 1024 = (listed q hq).row j m in
        (r, same_pos (load w (place j)) q (omega (arith, (listed q hq).once j r)))

    off-a : (j : ℕ) → (j < 1024) × (load w (place j) ≡ q) → occurs j a ≡ 0
    off-a j f =
        omega (arith, one.once j f.0, occurs-append j a b, same-other (load w (place j)) p (λ e. d (sym f.1 ∙ e)))

    other-chain : q ≢ fel → Chain w' (head q) (L q)
    other-chain g =
        chain-moved w w' (head q) (head q) (L q)
        (ch.kept (head q) (end-not-head w p a b one q d) (λ e. omega arith) (λ e. omega arith) (λ e. omega arith))
        (λ j m.
        let f : (j < 1024) × (load w (place j) ≡ q) = on-q j m in
        ch.kept (link j) (end-not-link w p a b one j f.0 (off-a j f))
        (λ e. ch.was q hq d (subst (λ (x : ℕ). load w (place x) ≡ q) (omega arith) f.1))
        (λ e. omega arith) (λ e. omega arith))
        ((listed q hq).chain g)

    other-once : (j : ℕ) → j < 1024 → occurs j (L q) ≡ same (load w' (place j)) q
    other-once j hj = go (ℕ_discrete j k)
      where
        go : Dec (j ≡ k) → occurs j (L q) ≡ same (load w' (place j)) q
        go (yes e) =
            (listed q hq).once j hj
            ∙ same-other (load w (place j)) q (λ f. ch.was q hq d (subst (λ (x : ℕ). load w (place x) ≡ q) e f))
            ∙ sym (same-other (load w' (place j)) q (λ f. ch.is q hq d (subst (λ (x : ℕ). load w' (place x) ≡ q) e f)))
        go (no n) =
            (listed q hq).once j hj
            ∙ ap (λ (x : ℕ). same x q)
            (sym
            (ch.kept (place j) (λ e. omega (arith, end_low w p a b one)) (λ e. omega arith) (λ e. n (omega arith)) (λ e. omega arith)))

    -- the FEL reads nothing that changed
    unread : q ≡ fel → Unread w w' (length (L q))
    unread g =
        record {
          heads =
              ch.kept (head fel) (end-not-head w p a b one fel (λ e. chained (sym e))) (λ e. omega arith) (λ e. omega arith)
              (λ e. omega arith);
          tails =
              ch.kept (tail fel) (λ e. omega (arith, end-high w p a b one)) (λ e. omega arith) (λ e. omega arith)
              (λ e. chained (omega arith));
          slots =
              λ i hi. ch.kept (slot i) (λ e. omega (arith, end_low w p a b one, few)) (λ e. omega (arith, few)) (λ e. omega (arith, few))
              (λ e. omega (arith, few));
          stay = λ r hr at. still r hr (λ e. ch.was q hq d (ap (λ (x : ℕ). load w (place x)) (sym e) ∙ at ∙ sym g)) ∙ at;
          were = λ r hr at. sym (still r hr (λ e. ch.is q hq d (ap (λ (x : ℕ). load w' (place x)) (sym e) ∙ at ∙ sym g))) ∙ at;
          links = λ r hr at.
              ch.kept (link r) (end-not-link w p a b one r hr (off-a r (hr, at ∙ sym g)))
              (λ e. ch.was q hq d (ap (λ (x : ℕ). load w (place x)) (omega arith) ∙ at ∙ sym g)) (λ e. omega arith) (λ e. omega arith);
          order = λ x y hx hy a b. sooner-kept w w' same_data x y hx hy;
        }
      where
        few : length (L q) ≤ 1024
        few = short w q (L q) (listed q hq)

        still : (r : ℕ) → r < 1024 → r ≢ k → load w' (place r) ≡ load w (place r)
        still r hr e =
            ch.kept (place r) (λ e. omega (arith, end_low w p a b one)) (λ e. omega arith) (λ f. e (omega arith)) (λ e. omega arith)

        same_data : SameData w w'
        same_data i hi = ch.kept i (λ e. omega (arith, end_low w p a b one)) (λ e. omega arith) (λ e. omega arith) (λ e. omega arith)

    pub other : Listed w' q (L q)
    other =
        record {
          chain = other-chain;
          last =
              λ g. ch.kept (tail q) (λ e. omega (arith, end-high w p a b one)) (λ e. omega arith) (λ e. omega arith) (λ e. d (omega arith))
              ∙ (listed q hq).last g;
          heap = λ g. heaped-kept w w' (length (L q)) (unread g) ((listed q hq).heap g);
          row = (listed q hq).row;
          once = other-once;
        }

  own : (j : ℕ) → 1 ≤ occurs j a → j < 1024
  own j m = (row_of w p a b one j (omega (arith, occurs-append j a b))).0

  pub itself : Listed w' p (a ++ b')
  itself =
      record {
        chain =
            λ g. chain-joined w w' (head p) a b b'
            (λ j m e. omega (arith, own j m))
            (λ j. omega (arith, at-most-once w p a b one j, occurs-append j a b))
            (λ n. ch.kept (head p) n (λ e. omega arith) (λ e. omega arith) (λ e. omega arith))
            (λ j m n.
            ch.kept (link j) n
            (λ e. let f : j ≡ k = omega arith in omega (arith, ch.apart, subst (λ (x : ℕ). 1 ≤ occurs x a) f m))
            (λ e. omega arith)
            (λ e. omega (arith, own j m)))
            (one.chain g)
            ch.chain;
        last = λ g. ch.last ∙ sym (ending-append (head p) a b');
        heap = λ g. absurd (chained g);
        row = ch.row;
        once = ch.once;
      }

  -- list p is now `a ++ b'`, every other list is as before
  pub structure : (q : ℕ) → q < list_count → Listed w' q (update p (a ++ b') L q)
  structure q hq = go (eqb q p) refl
    where
      go : (t : Bool) → eqb q p ≡ t → Listed w' q (cond t (a ++ b') (L q))
      go true e = rw (eqb-true q p e) itself
      go false e = other q hq (eqb-false q p e)
