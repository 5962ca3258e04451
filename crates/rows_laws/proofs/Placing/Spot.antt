-- Where a row comes to stand, by any test of two rows: the spot is a cell of the list; and where the test is an order by which
-- the list is sorted, the cell behind those that the row does not stand before.
use Rattle.machine.specs.All.{ℕ, zero, suc, ◌-◌, ◌≤◌, ◌<◌, ◌≡◌, refl, sym, ap, ◌∙◌, subst, ◌≢◌, Bool, true, false, cond, List, [], ◌∷◌, ◌++◌, append-nil, append_assoc, arith, lt-ltb, le-ltb, ltb-true, eqb-true, eqb-false, ltb, eqb, length, length-append}
use Rattle.rows_laws.specs.All.{place, link, head, fel, heads, links, load, step, walk, begin, hinted, spot_before, spot, same, occurs, Chain, ending, Listed, All, Sorted, sum_to}
use Rattle.rows_laws.proofs as our
use our.Counting.Occurs.{same_refl, same-other, same-le}
use our.Counting.Sums.{sum-add, sum_same, sum-le, sum-zero}
use our.Chains.Chain.{chain-after, ending-append}
use our.Placing.WalkSteps.{walk-next, walk-stay}
use our.Order.SortedInsertion.{Order, all_append, front, back, front-back, front-all, last_of, not-before}

-- ---- No list is longer than 1,024

sum-length : (n : ℕ) (l : List ℕ) → ((k : ℕ) → 1 ≤ occurs k l → k < n) → sum_to n (λ k. occurs k l) ≡ length l
unfolding occurs
sum-length n [] h = sum-zero n (λ k. 0) (λ k m. refl)
sum-length n (x ∷ l) h =
    omega (
      arith,
      sum-add n (λ k. same k x) (λ k. occurs k l),
      sum_same n x (h x (omega (arith, same_refl x x refl))),
      sum-length n l (λ k m. h k (omega arith)),
    )

-- no row occurs twice, so that the occurrences of all rows add up to the length
pub listed-length : (w : List ℕ) (p : ℕ) (l : List ℕ) → Listed w p l → sum_to 1024 (λ k. occurs k l) ≡ length l
listed-length w p l one = sum-length 1024 l one.row

-- a list has at most as many members as there are rows
pub short : (w : List ℕ) (p : ℕ) (l : List ℕ) → Listed w p l → length l ≤ 1024
short w p l one =
    omega
    (arith, listed-length w p l one, sum-le 1024 (λ k. occurs k l) (λ k m. omega (arith, one.once k m, same-le (load w (place k)) p)))

-- ---- The walk

module _ (before : ℕ → ℕ → Bool) (w : List ℕ) (p k : ℕ) where
  step-none : (c : ℕ) → 1024 ≤ load w c → step before w k c ≡ c
  unfolding step
  step-none c h = rw (le-ltb (load w c) 1024 h)

  step_row : (c j : ℕ) → load w c ≡ j → j < 1024 → step before w k c ≡ cond (before k j) c (link j)
  unfolding step
  step_row c j e h = rw (e, lt-ltb j 1024 h)

  -- the walk stops behind those that k does not stand before
  pub walk-front : (n c : ℕ) (b : List ℕ) → Chain w c b → length b ≤ n → walk before n w k c ≡ ending c (front before k b)
  unfolding Chain ending front
  walk-front n c [] h m = walk-stay before w k n c (step-none c h)
  walk-front zero c (j ∷ b) h m = absurd (omega arith)
  walk-front (suc n) c (j ∷ b) h m =
      go (before k j) (step_row c j h.0 h.1) (walk-front n (link j) b h.2 (omega arith))
    where
      go : (t : Bool) → step before w k c ≡ cond t c (link j) → walk before n w k (link j) ≡ ending (link j) (front before k b)
          → walk before (suc n) w k c ≡ ending c (cond t [] (j ∷ front before k b))
      go true e r = walk-stay before w k (suc n) c e
      go false e r = walk-next before w k (suc n) n c refl ∙ ap (walk before n w k) e ∙ r

  -- ---- The spot

  before_head : (t : ℕ) → heads ≤ t → spot_before before w p k t ≡ t
  unfolding spot_before
  before_head t h = rw (le-ltb t links (omega arith), le-ltb (t - links) 1024 (omega arith))

  before-link : (t j : ℕ) → t ≡ link j → j < 1024
      → spot_before before w p k t ≡ cond (before k j) (walk before 1024 w k (begin before w p k (hinted w p k))) t
  unfolding spot_before
  before-link t j e h =
      let f : t - links ≡ j = omega arith in
      rw (le-ltb t links (omega arith), f, lt-ltb j 1024 h)

  pub ending-last : (c y : ℕ) (l : List ℕ) → ending c (y ∷ l) ≡ link (last_of y l)
  unfolding ending last_of
  ending-last c y [] = refl
  ending-last c y (z ∷ l) = ending-last (link y) z l

  pub occurs-last : (y : ℕ) (l : List ℕ) → 1 ≤ occurs (last_of y l) (y ∷ l)
  unfolding occurs last_of
  occurs-last y [] = omega (arith, same_refl y y refl)
  occurs-last y (z ∷ l) = omega (arith, occurs-last z l)

-- ---- Where a walk begins

-- a list with row k behind the part where it is first looked for
pub front_self : (k : ℕ) (l : List ℕ) → 1 ≤ occurs k l → (b : List ℕ) × (l ≡ front eqb k l ++ k ∷ b)
unfolding occurs front
front_self k [] h = absurd (omega arith)
front_self k (x ∷ l) h = go (eqb k x) refl (front_self k l)
  where
    go : (t : Bool) → eqb k x ≡ t → (1 ≤ occurs k l → (b : List ℕ) × (l ≡ front eqb k l ++ k ∷ b))
        → (b : List ℕ) × (x ∷ l ≡ cond t [] (x ∷ front eqb k l) ++ k ∷ b)
    go true e rest = (l, ap (λ (y : ℕ). y ∷ l) (sym (eqb-true k x e)))
    go false e rest =
        let r : (b : List ℕ) × (l ≡ front eqb k l ++ k ∷ b) = rest (omega (arith, same-other k x (eqb-false k x e))) in
        (r.0, ap (λ (m : List ℕ). x ∷ m) r.1)

-- at the head, or behind a row of the list that row k does not stand before
data Begins (before : ℕ → ℕ → Bool) (p k c : ℕ) (l : List ℕ) : Type 0 where
  at_head : c ≡ head p → Begins before p k c l
  behind : (a b : List ℕ) (j : ℕ) → l ≡ a ++ j ∷ b → c ≡ link j → before k j ≡ false → Begins before p k c l

begins : (before : ℕ → ℕ → Bool) (w : List ℕ) (p k : ℕ) (l : List ℕ) → Listed w p l → (j : ℕ) → Begins before p k (begin before w p k j) l
unfolding begin
begins before w p k l one j = go (ltb j 1024) refl (eqb (load w (place j)) p) refl (before k j) refl
  where
    go : (x : Bool) → ltb j 1024 ≡ x → (y : Bool) → eqb (load w (place j)) p ≡ y → (z : Bool) → before k j ≡ z
        → Begins before p k (cond x (cond y (cond z (head p) (link j)) (head p)) (head p)) l
    go false d y e z f = at_head refl
    go true d false e z f = at_head refl
    go true d true e true f = at_head refl
    go true d true e false f =
        let row : j < 1024 = ltb-true j 1024 d in
        let r = front_self j l (omega (arith, one.once j row, same_refl (load w (place j)) p (eqb-true (load w (place j)) p e))) in
        behind (front eqb j l) r.0 j r.1 refl f

-- in a sorted list, those before a row that k does not stand before are passed
front-past : (before : ℕ → ℕ → Bool) → Order before → (k j : ℕ) (a b : List ℕ) → Sorted before (a ++ j ∷ b) → before k j ≡ false
    → front before k (a ++ j ∷ b) ≡ a ++ j ∷ front before k b
unfolding Sorted All front
front-past before o k j [] b h e = rw e
front-past before o k j (y ∷ a) b h e =
    rw (not-before before o k j y e (all_append (λ z. before z y ≡ false) a (j ∷ b) h.0).1.0)
    (ap (λ (m : List ℕ). y ∷ m) (front-past before o k j a b h.1 e))

-- ---- The spot is the cell behind a part of the list, whatever the test and the hint; in a sorted list behind those that the row does not
-- stand before

pub record Between (before : ℕ → ℕ → Bool) (w : List ℕ) (p k c : ℕ) (l : List ℕ) : Type 0 where
  pub ahead : List ℕ
  pub rest : List ℕ
  pub parts : l ≡ ahead ++ rest
  pub cell : c ≡ ending (head p) ahead
  pub fits : Order before → Sorted before l → ahead ≡ front before k l

module _ (before : ℕ → ℕ → Bool) (w : List ℕ) (p k : ℕ) (chained : p ≢ fel) (l : List ℕ) (one : Listed w p l) where
  walked : (c : ℕ) → Begins before p k c l → Between before w p k (walk before 1024 w k c) l
  unfolding Chain ending
  walked c (at_head e) =
      record {
        ahead = front before k l;
        rest = back before k l;
        parts = sym (front-back before k l);
        cell = ap (walk before 1024 w k) e ∙ walk-front before w p k 1024 (head p) l (one.chain chained) (short w p l one);
        fits = λ o s. refl;
      }
  walked c (behind a b j e q f) =
      let chain : Chain w (ending (head p) a) (j ∷ b) =
      chain-after w (head p) a (j ∷ b) (subst (Chain w (head p)) e (one.chain chained)) in
      let few : length b ≤ 1024 = omega (arith, short w p l one, ap length e, length-append a (j ∷ b)) in
      record {
        ahead = a ++ j ∷ front before k b;
        rest = back before k b;
        parts =
            e
            ∙ ap (λ (m : List ℕ). a ++ j ∷ m) (sym (front-back before k b))
            ∙ sym (append_assoc a (j ∷ front before k b) (back before k b));
        cell =
            ap (walk before 1024 w k) q
            ∙ walk-front before w p k 1024 (link j) b chain.2 few
            ∙ sym (ending-append (head p) a (j ∷ front before k b));
        fits = λ o s. sym (ap (front before k) e ∙ front-past before o k j a b (subst (Sorted before) e s) f);
      }

  from-hint : Between before w p k (walk before 1024 w k (begin before w p k (hinted w p k))) l
  from-hint = walked (begin before w p k (hinted w p k)) (begins before w p k l one (hinted w p k))

-- the spot is a cell of the list, whatever the test
pub spot-between : (before : ℕ → ℕ → Bool) (w : List ℕ) (p k : ℕ) → p ≢ fel → (l : List ℕ) → Listed w p l
    → Between before w p k (spot before w p k) l
unfolding spot ending front
spot-between before w p k d [] one =
    record {
      ahead = [];
      rest = [];
      parts = refl;
      cell = ap (spot_before before w p k) (one.last d) ∙ before_head before w p k (head p) (omega arith);
      fits = λ o s. refl;
    }
spot-between before w p k d (y ∷ l) one =
    subst (λ (c : ℕ). Between before w p k c (y ∷ l))
    (sym (ap (spot_before before w p k) (one.last d)
    ∙ before-link before w p k (ending (head p) (y ∷ l)) (last_of y l) (ending-last before w p k (head p) y l)
    (one.row (last_of y l) (occurs-last before w p k y l))))
    (go (before k (last_of y l)) refl)
  where
    go : (t : Bool) → before k (last_of y l) ≡ t
        → Between before w p k (cond t (walk before 1024 w k (begin before w p k (hinted w p k))) (ending (head p) (y ∷ l))) (y ∷ l)
    go true e = from-hint before w p k d (y ∷ l) one
    go false e =
        record {
          ahead = y ∷ l;
          rest = [];
          parts = sym (append-nil (y ∷ l));
          cell = refl;
          fits = λ o s. sym (front-all before o k y l s e);
        }
