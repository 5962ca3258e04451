-- Document 02, item 9: "the kept first is the first that a full walk finds, and none exactly when the list is empty", for a list in which
-- everybody stands before those behind.
use Rattle.machine.specs.All.{ℕ, zero, suc, ◌≤◌, ◌<◌, ◌≡◌, refl, sym, ap, ◌∙◌, subst, ◌≢◌, Bool, true, false, cond, not, List, [], ◌∷◌, map, arith, ℕ_discrete, lt-ltb, le-ltb, eqb-true, eqb-false, not-false, eqb, take, Transaction, Event, precedes}
use Rattle.rows_laws.specs.All.{place, fel, load, outranks, sooner, first, transaction_at, occurs, Listed, Sorted, Strict, Shows, earlier_of, walk_to, full_walk, or_none, NoneWhenEmpty, KeptFirst, kept, KeptHead}
use Rattle.rows_laws.proofs as our
use our.Counting.Occurs.{same_refl, same-other, same_pos, occurs-cons}
use our.Order.SortedInsertion.{Order, not-both, before-none, sorted_unmap, order_unmap}
use our.{Order.RowOrders.precedes-order, Order.RowOrders.outranks-is, Heap.Scheduling.sooner-order}
use our.Chains.TakeFirst.{First, none, some, first_of, Head, nobody as none-leads, somebody as one-leads, head_of}
use our.Heap.FutureEvents.{all-at, rows_strict, first-fel}

occurs-none : (k : ℕ) → occurs k [] ≡ 0
unfolding occurs
occurs-none k = refl

module _ (before : ℕ → ℕ → Bool) (o : Order before) (w : List ℕ) (p : ℕ) where
  irreflexive : (x : ℕ) → before x x ≡ false
  irreflexive x = go (before x x) refl
    where
      go : (t : Bool) → before x x ≡ t → before x x ≡ false
      go true e = o.asym x x e
      go false e = e

  -- none of rows 0..n - 1 has the place, or x is the first of those that have
  data Best (x n : ℕ) : Type 0 where
    nobody : x ≡ 1024 → ((j : ℕ) → j < n → load w (place j) ≢ p) → Best x n
    somebody : x < 1024 → load w (place x) ≡ p → ((j : ℕ) → j < n → load w (place j) ≡ p → before j x ≡ false) → Best x n

  earlier-none : (k : ℕ) → earlier_of before 1024 k ≡ k
  unfolding earlier_of
  earlier-none k = refl

  earlier-both : (j k : ℕ) → j < 1024 → earlier_of before j k ≡ cond (before k j) k j
  unfolding earlier_of
  earlier-both j k h = rw (lt-ltb j 1024 h)

  -- rows 0..n are rows 0..n - 1, and n
  last : (P : ℕ → Type 0) (n : ℕ) → P n → ((j : ℕ) → j < n → P j) → (j : ℕ) → j < suc n → P j
  last P n now rest j hj = go (ℕ_discrete j n)
    where
      go : Dec (j ≡ n) → P j
      go (yes e) = subst P (sym e) now
      go (no d) = rest j (omega arith)

  more : (x n : ℕ) → n < 1024 → load w (place n) ≡ p → Best x n → Best (earlier_of before x n) (suc n)
  more x n hn at (nobody e h) =
      rw (e, earlier-none n)
      (somebody hn at (last (λ j. load w (place j) ≡ p → before j n ≡ false) n (λ q. irreflexive n) (λ j hj q. absurd (h j hj q))))
  more x n hn at (somebody hx atx h) = rw (earlier-both x n hx) (go (before n x) refl)
    where
      go : (t : Bool) → before n x ≡ t → Best (cond t n x) (suc n)
      go true e =
          somebody hn at
          (last (λ j. load w (place j) ≡ p → before j n ≡ false) n (λ q. irreflexive n) (λ j hj q. before-none before o j x n e (h j hj q)))
      go false e = somebody hx atx (last (λ j. load w (place j) ≡ p → before j x ≡ false) n (λ q. e) h)

  same : (x n : ℕ) → load w (place n) ≢ p → Best x n → Best x (suc n)
  same x n d (nobody e h) = nobody e (last (λ j. load w (place j) ≢ p) n d h)
  same x n d (somebody hx at h) = somebody hx at (last (λ j. load w (place j) ≡ p → before j x ≡ false) n (λ q. absurd (d q)) h)

  walked : (n : ℕ) → n ≤ 1024 → Best (walk_to before w p n) n
  unfolding walk_to
  walked zero le = nobody refl (λ j hj. absurd (omega arith))
  walked (suc n) le = go (eqb (load w (place n)) p) refl (walked n (omega arith))
    where
      go : (t : Bool) → eqb (load w (place n)) p ≡ t → Best (walk_to before w p n) n
          → Best (cond t (earlier_of before (walk_to before w p n) n) (walk_to before w p n)) (suc n)
      go true e best = more (walk_to before w p n) n (omega arith) (eqb-true (load w (place n)) p e) best
      go false e best = same (walk_to before w p n) n (eqb-false (load w (place n)) p e) best

  walk_finds : (l : List ℕ) → Listed w p l → Strict before l → First w p l → or_none (first w p) ≡ full_walk before w p
  unfolding full_walk or_none Sorted
  walk_finds l one strict is = go is (walked 1024 (omega arith))
    where
      -- who has the place is on the list
      on : (j : ℕ) → j < 1024 → load w (place j) ≡ p → 1 ≤ occurs j l
      on j hj at = omega (arith, one.once j hj, same_refl (load w (place j)) p at)

      no_row : (k : ℕ) → 1024 ≤ k → or_none k ≡ 1024
      no_row k h = rw (le-ltb k 1024 h)

      a-row : (k : ℕ) → k < 1024 → or_none k ≡ k
      a-row k h = rw (lt-ltb k 1024 h)

      -- the head of the list, and who stands nowhere behind it
      ahead : (m : List ℕ) → l ≡ first w p ∷ m → first w p < 1024 → walk_to before w p 1024 < 1024
          → load w (place (walk_to before w p 1024)) ≡ p
          → ((j : ℕ) → j < 1024 → load w (place j) ≡ p → before j (walk_to before w p 1024) ≡ false)
          → Dec (walk_to before w p 1024 ≡ first w p)
          → or_none (first w p) ≡ walk_to before w p 1024
      ahead m q h hx at least (yes e) = a-row (first w p) h ∙ sym e
      ahead m q h hx at least (no d) =
          let y : ℕ = walk_to before w p 1024 in
          let f : ℕ = first w p in
          let sorted : Strict before (f ∷ m) = subst (Strict before) q strict in
          let here : 1 ≤ occurs y m = omega (arith, on y hx at, ap (occurs y) q, occurs-cons y f m, same-other y f d) in
          let own : 1 ≤ occurs f l = omega (arith, ap (occurs f) q, occurs-cons f f m, same_refl f f refl) in
          let there : load w (place f) ≡ p = same_pos (load w (place f)) p (omega (arith, own, one.once f h)) in
          not-both (before f y) (not-false (before f y) (all-at (λ z. not (before f z) ≡ false) y m sorted.0 here)) (least f h there)

      go : First w p l → Best (walk_to before w p 1024) 1024 → or_none (first w p) ≡ walk_to before w p 1024
      go (none q h) (nobody e b) = no_row (first w p) h ∙ sym e
      go (none q h) (somebody hx at b) =
          absurd
          (omega (arith, on (walk_to before w p 1024) hx at, ap (occurs (walk_to before w p 1024)) q, occurs-none (walk_to before w p 1024)))
      go (some m q h) (nobody e b) =
          absurd
          (b (first w p) h
          (same_pos (load w (place (first w p))) p
          (omega (
            arith,
            one.once (first w p) h,
            ap (occurs (first w p)) q,
            occurs-cons (first w p) (first w p) m,
            same_refl (first w p) (first w p) refl,
          ))))
      go (some m q h) (somebody hx at b) = ahead m q h hx at b (ℕ_discrete (walk_to before w p 1024) (first w p))

-- who has the place is on the list
none-empty : (w : List ℕ) (p : ℕ) (l : List ℕ) → Listed w p l → First w p l → NoneWhenEmpty w p
none-empty w p l one (none q h) =
    record {
      empty = λ e k hk at. omega (arith, one.once k hk, same_refl (load w (place k)) p at, ap (occurs k) q, occurs-none k);
      none = λ e. h;
    }
none-empty w p l one (some m q h) =
    record {
      empty = λ e. absurd (omega arith);
      none = λ e.
          absurd
          (e (first w p) h
          (same_pos (load w (place (first w p))) p
          (omega (
            arith,
            one.once (first w p) h,
            ap (occurs (first w p)) q,
            occurs-cons (first w p) (first w p) m,
            same_refl (first w p) (first w p) refl,
          ))));
    }

-- any order will do, if everybody stands before those behind
pub kept-first : (before : ℕ → ℕ → Bool) → Order before → (w : List ℕ) (p : ℕ) (l : List ℕ) → Listed w p l → Strict before l
    → First w p l
    → KeptFirst before w p
kept-first before o w p l one strict is =
    record { found = walk_finds before o w p l one strict is; none_when-empty = none-empty w p l one is }

-- ---- In every buffer that shows the machine's lists

module _ (w : List ℕ) (T : ℕ → List Transaction) (E : List Event) (s : Shows w T E) where
  pub fel-first : KeptFirst (sooner w) w fel
  fel-first =
      kept-first (sooner w) (sooner-order w) w fel (s.rows fel) (s.shown.holds.listed fel (omega arith))
      (rows_strict w s.rows T E s.shown s.ordered.future) (first-fel w s.rows T E s.shown s.ordered.future)

  module _ (p : ℕ) (hp : p < fel) where
    one : Listed w p (s.rows p)
    one = s.shown.holds.listed p (omega arith)

    is : First w p (s.rows p)
    is = first_of w p (s.rows p) (λ e. omega arith) one

    -- the serials of a list tell its rows apart
    pub list-first : Strict precedes (T p) → KeptFirst (outranks w) w p
    list-first strict =
        kept-first (outranks w) (order_unmap (transaction_at w) (outranks w) precedes (outranks-is w) precedes-order) w p (s.rows p) one
        (sorted_unmap (transaction_at w) (λ y x. not (outranks w x y)) (λ y x. not (precedes x y)) (λ x y. ap not (outranks-is w y x))
        (s.rows p) (rw (s.shown.lists p hp) strict)) is

    pub list-head : KeptHead w p (T p)
    unfolding kept
    list-head = record {
      leads = go (head_of w p (transaction_at w) (s.rows p) (T p) is (s.shown.lists p hp));
      none_when-empty = none-empty w p (s.rows p) one is;
    }
      where
        go : Head w p (transaction_at w) (T p) → map (transaction_at w) (kept w p) ≡ take 1 (T p)
        go (none-leads e h) = rw (le-ltb (first w p) 1024 h, e)
        go (one-leads m e h) = rw (lt-ltb (first w p) 1024 h, e)
