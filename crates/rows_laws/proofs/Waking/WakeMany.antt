-- Waking the first of a list, and all of a list that pass a test, with a number or without: the machine's `wake` of `take 1`, of who goes
-- on a `walk`, and of `those`. REL is in order; the list may be in any.
use Rattle.machine.specs.All.{ℕ, zero, suc, ◌≤◌, ◌<◌, ◌≡◌, refl, sym, ap, ◌∙◌, Bool, true, false, cond, List, [], ◌∷◌, ◌++◌, map, map-append, append_assoc, arith, lt-ltb, le-ltb, eqb-true, eqb, length, take, drop, Transaction, Event, precedes, with_returning, insert, those, others, wake, Parted, goes, stays}
use Rattle.machine.proofs.NobodyAble.QueueRemove.{walk, walk-fixed}
use Rattle.rows_laws.specs.All.{link, head, rel, first, wake_at, wake_first, after, pass_rows, pass_cell, wake_walk, wake_all, transaction_at, Chain, ending, Sorted, Shown, Held, moved}
use Rattle.rows_laws.proofs as our
use our.{Counting.Occurs.occurs-append, Chains.Chain.chain-after, Chains.Chain.ending-append, Chains.Showing.shown_ext}
use our.Steps.{wake_walk-stop, wake_walk-next, wake_all-walk}
use our.Chains.TakeFirst.{First, none, some, first_of}
use our.Life.LooseRowsStay.{Steady, steady_refl, steady_trans}
use our.Waking.WakeOne.{woken, wake-rows, wake-shown, wake-ready, wake-steady, wake-same}
use mathlib.Core.Path.{subst}
use Rattle.rows_laws.specs.Holds.{Listed}

-- ---- Lists with two replaced

module _ (p : ℕ) (T : ℕ → List Transaction) where
  -- replaced by themselves
  pub moved_none : (l r : List Transaction) → l ≡ T p → r ≡ T rel → (q : ℕ) → T q ≡ moved p l r T q
  moved_none l r e f q = go (eqb q rel) refl (eqb q p) refl
    where
      go : (t : Bool) → eqb q rel ≡ t → (u : Bool) → eqb q p ≡ u → T q ≡ cond t r (cond u l (T q))
      go true g u h = ap T (eqb-true q rel g) ∙ sym f
      go false g true h = ap T (eqb-true q p h) ∙ sym e
      go false g false h = refl

  -- of two changes of the same two lists the later one stays
  pub moved_twice : (l r l' r' : List Transaction) (q : ℕ) → moved p l' r' (moved p l r T) q ≡ moved p l' r' T q
  moved_twice l r l' r' q = go (eqb q rel) (eqb q p)
    where
      go : (t u : Bool) → cond t r' (cond u l' (cond t r (cond u l (T q)))) ≡ cond t r' (cond u l' (T q))
      go true u = refl
      go false true = refl
      go false false = refl

held_ext : (w : List ℕ) (T U : ℕ → List Transaction) (E : List Event) → ((q : ℕ) → T q ≡ U q) → Held w T E → Held w U E
held_ext w T U E e s =
    record { rows = s.rows; shown = shown_ext w s.rows T U E (λ q h. e q) s.shown }

-- what waking leaves, where REL is in order
pub record Woken (w w' : List ℕ) (T : ℕ → List Transaction) (E : List Event) : Type 0 where
  pub held : Held w' T E
  pub steady : Steady w w'

-- ---- The first

module _ (w : List ℕ) (L : ℕ → List ℕ) (T : ℕ → List Transaction) (E : List Event) (s : Shown w L T E)
    (ready : Sorted precedes (T rel)) (p : ℕ) (hp : p < 449) where
  no-first : 1024 ≤ first w p → wake_first w p ≡ w
  unfolding wake_at
  no-first h = rw (le-ltb (first w p) 1024 h)

  -- nothing happens where the line is empty
  pub wake-first-held : Woken w (wake_first w p) (moved p (drop 1 (T p)) (wake (take 1 (T p)) (T rel)) T) E
  unfolding ending wake
  wake-first-held = go (first_of w p (L p) (λ e. omega arith) (s.holds.listed p (omega arith)))
    where
      tx : List ℕ → List Transaction
      tx l = map (transaction_at w) l

      go : First w p (L p) → Woken w (wake_first w p) (moved p (drop 1 (T p)) (wake (take 1 (T p)) (T rel)) T) E
      go (none e h) =
          let t : T p ≡ [] = sym (s.lists p (omega arith)) ∙ ap tx e in
          rw (no-first h)
          (record {
            held = record {
              rows = L;
              shown =
                  shown_ext w L T (moved p (drop 1 (T p)) (wake (take 1 (T p)) (T rel)) T) E
                  (λ q hq. moved_none p T (drop 1 (T p)) (wake (take 1 (T p)) (T rel)) (ap (drop 1) t ∙ sym t)
                  (ap (λ (l : List Transaction). wake (take 1 l) (T rel)) t) q) s;
            };
            steady = steady_refl w;
          })
      go (some m e h) =
          let t : tx (first w p ∷ m) ≡ T p = sym (ap tx e) ∙ s.lists p (omega arith) in
          record {
            held =
                record {
                  rows = woken w L T E s p hp (first w p) [] m e;
                  shown =
                      subst
                      (λ (l : List Transaction).
                      Shown (wake_first w p) (woken w L T E s p hp (first w p) [] m e) (moved p (drop 1 l) (wake (take 1 l) (T rel)) T) E) t
                      (wake-shown w L T E s p hp (first w p) [] m e ready);
                };
            steady = wake-steady w L T E s p hp (first w p) [] m e;
          }

-- ---- All that pass a test

module _ (test : ℕ → List ℕ → ℕ → Bool) (next : ℕ → List ℕ → ℕ → ℕ) (P : ℕ → Transaction → Bool) (N : ℕ → Transaction → ℕ)
    (agree : (n : ℕ) (w : List ℕ) (k : ℕ) → test n w k ≡ P n (transaction_at w k))
    (follow : (n : ℕ) (w : List ℕ) (k : ℕ) → next n w k ≡ N n (transaction_at w k))
    (E : List Event) (p : ℕ) (hp : p < 449) where
  abbrev Result : ℕ → List ℕ → List ℕ → List ℕ → List ℕ → (ℕ → List Transaction) → Type 0
  Result left w w' a b T =
      Woken w w'
      (moved p (map (transaction_at w) a ++ (walk P N left (map (transaction_at w) b)).stay)
      (wake (walk P N left (map (transaction_at w) b)).go (T rel)) T) E

  -- nobody is left
  all_done : (n left : ℕ) (w : List ℕ) (L : ℕ → List ℕ) (T : ℕ → List Transaction) (s : Shown w L T E) (a : List ℕ) → L p ≡ a ++ []
      → Result left w (wake_walk test next n left w p (ending (head p) a)) a [] T
  unfolding Chain wake walk
  all_done n left w L T s a was =
      let one : Listed w p (a ++ []) = rw was at (s.holds.listed p (omega arith)) in
      let same : map (transaction_at w) a ++ [] ≡ T p =
      sym (map-append (transaction_at w) a []) ∙ ap (map (transaction_at w)) (sym was) ∙ s.lists p (omega arith) in
      rw (wake_walk-stop test next left w p (ending (head p) a) n (chain-after w (head p) a [] (one.chain (λ e. omega arith))))
      (record {
        held = record {
          rows = L;
          shown =
              shown_ext w L T (moved p (map (transaction_at w) a ++ []) (T rel) T) E
              (λ q hq. moved_none p T (map (transaction_at w) a ++ []) (T rel) same refl q) s;
        };
        steady = steady_refl w;
      })

  module _ (n left : ℕ) (w : List ℕ) (L : ℕ → List ℕ) (T : ℕ → List Transaction) (s : Shown w L T E) (a : List ℕ) (k : ℕ)
      (b : List ℕ) (was : L p ≡ a ++ k ∷ b) where
    abbrev cell : ℕ
    cell = ending (head p) a

    abbrev tx : List ℕ → List Transaction
    tx l = map (transaction_at w) l

    abbrev T₁ : ℕ → List Transaction
    T₁ = moved p (tx (a ++ b)) (insert precedes (with_returning true (transaction_at w k)) (T rel)) T

    -- what is left behind row k, and how those behind it part
    abbrev left₁ : ℕ
    left₁ = N left (transaction_at w k)

    abbrev rest : Parted
    rest = walk P N left₁ (tx b)

    abbrev Goal : Bool → Type 0
    Goal t =
        Woken w (wake_walk test next n left₁ (cond t (wake_at w p cell) w) p (cond t cell (link k)))
        (moved p (tx a ++ (cond t (goes (transaction_at w k) rest) (stays (transaction_at w k) rest)).stay)
        (wake (cond t (goes (transaction_at w k) rest) (stays (transaction_at w k) rest)).go (T rel)) T) E

    -- the row goes to REL
    row_goes : Result left₁ (wake_at w p cell) (wake_walk test next n left₁ (wake_at w p cell) p cell) a b T₁ → Goal true
    unfolding wake
    row_goes woken =
        record {
          held =
              held_ext (wake_walk test next n left₁ (wake_at w p cell) p cell)
              (moved p (tx a ++ rest.stay) (wake rest.go (T₁ rel)) T₁)
              (moved p (tx a ++ rest.stay) (wake rest.go (T₁ rel)) T)
              E
              (moved_twice p T (tx (a ++ b)) (insert precedes (with_returning true (transaction_at w k)) (T rel)) (tx a ++ rest.stay)
              (wake rest.go (T₁ rel)))
              (rw (
                wake-same w L T E s p hp k a b was a (λ j m. omega (arith, occurs-append j a b)),
                wake-same w L T E s p hp k a b was b (λ j m. omega (arith, occurs-append j a b)),
              )
              at woken.held);
          steady =
              steady_trans w (wake_at w p cell) (wake_walk test next n left₁ (wake_at w p cell) p cell) (wake-steady w L T E s p hp k a b was)
              woken.steady;
        }

    -- the row stays
    row_stays : Result left₁ w (wake_walk test next n left₁ w p (link k)) (a ++ k ∷ []) b T → Goal false
    row_stays woken =
        record {
          held = rw (map-append (transaction_at w) a (k ∷ []), append_assoc (tx a) (transaction_at w k ∷ []) rest.stay) at woken.held;
          steady = woken.steady;
        }

    one_more : Result left₁ (wake_at w p cell) (wake_walk test next n left₁ (wake_at w p cell) p cell) a b T₁
        → Result left₁ w (wake_walk test next n left₁ w p (link k)) (a ++ k ∷ []) b T
        → Result left w (wake_walk test next (suc n) left w p cell) a (k ∷ b) T
    unfolding Chain walk pass_rows pass_cell after
    one_more yes-rest no-rest =
        let one : Listed w p (a ++ k ∷ b) = rw was at (s.holds.listed p (omega arith)) in
        let c : Chain w cell (k ∷ b) = chain-after w (head p) a (k ∷ b) (one.chain (λ e. omega arith)) in
        rw (
          wake_walk-next test next left w p cell (suc n) n refl (omega (arith, c.0, c.1)),
          c.0,
          agree left w k,
          follow left w k,
          lt-ltb k 1024 c.1,
        )
        (go (P left (transaction_at w k)))
      where
        go : (t : Bool) → Goal t
        go true = row_goes yes-rest
        go false = row_stays no-rest

  -- by induction on the rows that are still to be asked; `left` is the number that the test carries along
  pub wake_walk-held : (n : ℕ) (b : List ℕ) (left : ℕ) (w : List ℕ) (L : ℕ → List ℕ) (T : ℕ → List Transaction) (s : Shown w L T E)
      → Sorted precedes (T rel) → (a : List ℕ) → L p ≡ a ++ b → length b ≤ n
      → Result left w (wake_walk test next n left w p (ending (head p) a)) a b T
  unfolding ending
  wake_walk-held n [] left w L T s ready a was len = all_done n left w L T s a was
  wake_walk-held zero (k ∷ b) left w L T s ready a was len = absurd (omega arith)
  wake_walk-held (suc n) (k ∷ b) left w L T s ready a was len =
      one_more n left w L T s a k b was
      (wake_walk-held n b (left₁ n left w L T s a k b was) (wake_at w p (ending (head p) a)) (woken w L T E s p hp k a b was)
      (T₁ n left w L T s a k b was) (wake-shown w L T E s p hp k a b was ready) (wake-ready w L T E s p hp k a b was ready) a
      (wake-rows w L T E s p hp k a b was) (omega arith))
      (rw (ending-append (head p) a (k ∷ [])) at
      (wake_walk-held n b (left₁ n left w L T s a k b was) w L T s ready (a ++ k ∷ []) (was ∙ sym (append_assoc a (k ∷ []) b)) (omega arith)))

-- with no number
pub wake_all-held : (test : List ℕ → ℕ → Bool) (P : Transaction → Bool) → ((w : List ℕ) (k : ℕ) → test w k ≡ P (transaction_at w k))
    → (E : List Event) (p : ℕ)
    → p < 449
    → (n : ℕ) (w : List ℕ) (L : ℕ → List ℕ) (T : ℕ → List Transaction) → Shown w L T E → Sorted precedes (T rel) → length (L p) ≤ n
    → Woken w (wake_all test n w p (head p))
    (moved p (others P (map (transaction_at w) (L p))) (wake (those P (map (transaction_at w) (L p))) (T rel)) T) E
unfolding ending
wake_all-held test P agree E p hp n w L T s ready len =
    rw (
      wake_all-walk test n w p (head p),
      ← ap (λ (x : Parted). x.stay) (walk-fixed (λ n. P) 0 (map (transaction_at w) (L p))),
      ← ap (λ (x : Parted). x.go) (walk-fixed (λ n. P) 0 (map (transaction_at w) (L p))),
    )
    (wake_walk-held (λ n. test) (λ n v k. n) (λ n. P) (λ n t. n) (λ n. agree) (λ n v k. refl) E p hp n (L p) 0 w L T s ready [] refl len)
