-- Who stays on a list where those that a walk takes are woken: the steps of the count, and that it is how many stay.
use Rattle.machine.specs.All.{ℕ, zero, suc, ◌+◌, ◌≤◌, ◌<◌, ◌≡◌, refl, sym, ap, ◌∙◌, Bool, true, false, cond, List, [], ◌∷◌, ◌++◌, map, append_assoc, arith, lt-ltb, le-ltb, length, Transaction, Event, precedes, Parted, goes, stays}
use Rattle.machine.proofs.NobodyAble.QueueRemove.{walk}
use Rattle.rows_laws.specs.All.{link, head, rel, load, wake_at, after, pass_rows, pass_cell, wake_walk, transaction_at, Chain, ending, Sorted, Shown, Shows}
use Rattle.rows_laws.proofs.{Counting.Occurs.occurs-append, Chains.Chain.chain-after, Chains.Chain.ending-append, Placing.Spot.short, Steps.wake_walk-end, Steps.wake_walk-stop, Steps.wake_walk-next}
use Rattle.rows_laws.proofs.Waking.WakeOne.{wake-rows, wake-shown, wake-ready, wake-same}
use Rattle.servers_laws.specs.{one_unless, wake_stays}
use Rattle.rows_laws.specs.Holds.{Listed}
use Rattle.rows_laws.proofs.Waking.WakeOne.{woken}

-- ---- Steps

module _ (test : ℕ → List ℕ → ℕ → Bool) (next : ℕ → List ℕ → ℕ → ℕ) (left : ℕ) (w : List ℕ) (p c : ℕ) where
  stays-stop : (n : ℕ) → 1024 ≤ load w c → wake_stays test next n left w p c ≡ 0
  unfolding wake_stays
  stays-stop zero h = refl
  stays-stop (suc n) h = rw (le-ltb (load w c) 1024 h)

  stays-next : (n m : ℕ) → n ≡ suc m → load w c < 1024
      → wake_stays test next n left w p c
      ≡ one_unless (test left w (load w c)) + wake_stays test next m (next left w (load w c)) (pass_rows (test left w (load w c)) w p c) p
      (pass_cell (test left w (load w c)) w c)
  unfolding wake_stays
  stays-next n m e h = rw (e, lt-ltb (load w c) 1024 h)

  -- the loop ends by its steps
  module _ (n : ℕ) where
    -- the walk is over: its rows are the whole
    pub end-rows : (v : List ℕ) → wake_walk test next n left w p c ≡ v → n ≡ 0 → w ≡ v
    end-rows v e z = sym (wake_walk-end test next left w p c n z) ∙ e

    pub end_stays : (stay m : ℕ) → stay + wake_stays test next n left w p c ≡ m → n ≡ 0 → stay ≡ m
    unfolding wake_stays
    end_stays stay m e z = omega (arith, e, ap (λ (x : ℕ). wake_stays test next x left w p c) z)

  -- the list ends
  module _ (n k : ℕ) (row : k ≡ load w c) (none : 1024 ≤ k) where
    pub stop-rows : (v : List ℕ) → wake_walk test next n left w p c ≡ v → w ≡ v
    stop-rows v e = sym (wake_walk-stop test next left w p c n (omega arith)) ∙ e

    pub stop-stays : (stay m : ℕ) → stay + wake_stays test next n left w p c ≡ m → stay ≡ m
    stop-stays stay m e = omega (arith, e, stays-stop n (omega arith))

  -- one step: row k passes the test or not
  module _ (k m n : ℕ) (fits : Bool) (left' : ℕ) (w' : List ℕ) (c' : ℕ) (row : k ≡ load w c) (there : k < 1024)
      (tested : fits ≡ test left w k) (follows : left' ≡ next left w k)
      (rows : w' ≡ pass_rows fits w p c) (cell : c' ≡ pass_cell fits w c) where
    answer : test left w (load w c) ≡ fits
    answer = sym (tested ∙ ap (test left w) row)

    number : next left w (load w c) ≡ left'
    number = sym (follows ∙ ap (next left w) row)

    -- one member asked: the rest of the walk from here is the whole walk
    pub step-rows : (v : List ℕ) → wake_walk test next n left w p c ≡ v → n ≡ suc m → wake_walk test next m left' w' p c' ≡ v
    step-rows v e steps = sym (wake_walk-next test next left w p c n m steps (omega arith) ∙ rw (answer, number, ← rows, ← cell)) ∙ e

    step-one : n ≡ suc m → wake_stays test next n left w p c ≡ one_unless fits + wake_stays test next m left' w' p c'
    step-one steps = stays-next n m steps (omega arith) ∙ rw (answer, number, ← rows, ← cell)

    -- a member that does not fit stays, and is counted
    pub step_stays : (o stay q : ℕ) → o ≡ one_unless fits → stay + wake_stays test next n left w p c ≡ q → n ≡ suc m
        → stay + o + wake_stays test next m left' w' p c' ≡ q
    step_stays o stay q e f steps = omega (arith, e, f, step-one steps)

-- ---- The count

module _ (test : ℕ → List ℕ → ℕ → Bool) (next : ℕ → List ℕ → ℕ → ℕ) (P : ℕ → Transaction → Bool) (N : ℕ → Transaction → ℕ)
    (agree : (n : ℕ) (w : List ℕ) (k : ℕ) → test n w k ≡ P n (transaction_at w k))
    (follow : (n : ℕ) (w : List ℕ) (k : ℕ) → next n w k ≡ N n (transaction_at w k))
    (E : List Event) (p : ℕ) (hp : p < 449) where
  passed : (n left : ℕ) (w : List ℕ) (c k : ℕ) → load w c ≡ k → k < 1024
      → wake_stays test next (suc n) left w p c
      ≡ one_unless (P left (transaction_at w k)) + wake_stays test next n (N left (transaction_at w k))
      (cond (P left (transaction_at w k)) (wake_at w p c) w) p (cond (P left (transaction_at w k)) c (link k))
  unfolding pass_rows pass_cell after
  passed n left w c k e h =
      stays-next test next left w p c (suc n) n refl (omega arith) ∙ rw (e, agree left w k, follow left w k, lt-ltb k 1024 h)

  module _ (n left : ℕ) (w : List ℕ) (L : ℕ → List ℕ) (T : ℕ → List Transaction) (s : Shown w L T E) (a : List ℕ) (k : ℕ)
      (b : List ℕ) (was : L p ≡ a ++ k ∷ b) where
    abbrev cell : ℕ
    cell = ending (head p) a

    abbrev left₁ : ℕ
    left₁ = N left (transaction_at w k)

    one_more : wake_stays test next n left₁ (wake_at w p cell) p cell
        ≡ length (walk P N left₁ (map (transaction_at (wake_at w p cell)) b)).stay
        → wake_stays test next n left₁ w p (link k) ≡ length (walk P N left₁ (map (transaction_at w) b)).stay
        → wake_stays test next (suc n) left w p cell ≡ length (walk P N left (map (transaction_at w) (k ∷ b))).stay
    unfolding Chain walk
    one_more gone stayed =
        let one : Listed w p (a ++ k ∷ b) = rw was at (s.holds.listed p (omega arith)) in
        let c : Chain w cell (k ∷ b) = chain-after w (head p) a (k ∷ b) (one.chain (λ e. omega arith)) in
        rw (passed n left w cell k c.0 c.1) (go (P left (transaction_at w k)))
      where
        rest : Parted
        rest = walk P N left₁ (map (transaction_at w) b)

        go : (t : Bool) → one_unless t + wake_stays test next n left₁ (cond t (wake_at w p cell) w) p (cond t cell (link k))
            ≡ length (cond t (goes (transaction_at w k) rest) (stays (transaction_at w k) rest)).stay
        go true =
            let same : map (transaction_at (wake_at w p cell)) b ≡ map (transaction_at w) b =
            wake-same w L T E s p hp k a b was b (λ j m. omega (arith, occurs-append j a b)) in
            omega (arith, gone, ap (λ (l : List Transaction). length (walk P N left₁ l).stay) same)
        go false = omega (arith, stayed)

  nobody-stays : (n left : ℕ) (w : List ℕ) (L : ℕ → List ℕ) (T : ℕ → List Transaction) (s : Shown w L T E) (a : List ℕ)
      → L p ≡ a ++ []
      → wake_stays test next n left w p (ending (head p) a) ≡ 0
  unfolding Chain
  nobody-stays n left w L T s a was =
      let one : Listed w p (a ++ []) = rw was at (s.holds.listed p (omega arith)) in
      stays-stop test next left w p (ending (head p) a) n (chain-after w (head p) a [] (one.chain (λ e. omega arith)))

  stays-shown : (n : ℕ) (b : List ℕ) (left : ℕ) (w : List ℕ) (L : ℕ → List ℕ) (T : ℕ → List Transaction) (s : Shown w L T E)
      → Sorted precedes (T rel) → (a : List ℕ) → L p ≡ a ++ b
      → length b ≤ n
      → wake_stays test next n left w p (ending (head p) a) ≡ length (walk P N left (map (transaction_at w) b)).stay
  unfolding ending walk
  stays-shown n [] left w L T s ready a was len = nobody-stays n left w L T s a was
  stays-shown zero (k ∷ b) left w L T s ready a was len = absurd (omega arith)
  stays-shown (suc n) (k ∷ b) left w L T s ready a was len =
      one_more n left w L T s a k b was
      (stays-shown n b (N left (transaction_at w k)) (wake_at w p (ending (head p) a)) (woken w L T E s p hp k a b was) _
      (wake-shown w L T E s p hp k a b was ready) (wake-ready w L T E s p hp k a b was ready) a (wake-rows w L T E s p hp k a b was)
      (omega arith))
      (rw (ending-append (head p) a (k ∷ [])) at
      (stays-shown n b (N left (transaction_at w k)) w L T s ready (a ++ k ∷ []) (was ∙ sym (append_assoc a (k ∷ []) b)) (omega arith)))

  -- the count of those who stay is the length of the QL that is left
  pub stays-shows : (left : ℕ) (w : List ℕ) (T : ℕ → List Transaction) → Shows w T E
      → wake_stays test next 1024 left w p (head p) ≡ length (walk P N left (T p)).stay
  unfolding ending
  stays-shows left w T s =
      stays-shown 1024 (s.rows p) left w s.rows T s.shown (s.ordered.lists rel (omega arith)) [] refl
      (short w p (s.rows p) (s.shown.holds.listed p (omega arith)))
      ∙ ap (λ (l : List Transaction). length (walk P N left l).stay) (s.shown.lists p (omega arith))
