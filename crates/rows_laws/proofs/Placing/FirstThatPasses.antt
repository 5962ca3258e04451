-- A walk along a list finds the first row that passes a test, if there is one.
use Rattle.machine.specs.All.{ℕ, ◌≤◌, ◌<◌, ◌≡◌, refl, sym, ap, ◌∙◌, subst, ◌≢◌, Bool, true, false, cond, List, [], ◌∷◌, ◌++◌, arith, length}
use Rattle.rows_laws.specs.All.{head, fel, load, walk, Chain, ending, Listed, All}
use Rattle.rows_laws.proofs.{Chains.Chain.chain-after, Order.SortedInsertion.front, Order.SortedInsertion.back, Order.SortedInsertion.front-back, Placing.Spot.short, Placing.Spot.walk-front}

module _ {A : Type 0} (r : A → A → Bool) (x : A) where
  front-none : (l : List A) → All (λ y. r x y ≡ false) (front r x l)
  unfolding All front
  front-none [] = tt
  front-none (y ∷ l) = go (r x y) refl (front-none l)
    where
      go : (t : Bool) → r x y ≡ t → All (λ y. r x y ≡ false) (front r x l) → All (λ y. r x y ≡ false) (cond t [] (y ∷ front r x l))
      go true e h = tt
      go false e h = (e, h)

  back-first : (l : List A) (y : A) (b : List A) → back r x l ≡ y ∷ b → r x y ≡ true
  unfolding back
  back-first [] y b e = absurd (omega (arith, ap (λ (l : List A). length l) e))
  back-first (z ∷ l) y b e = go (r x z) refl e (back-first l y b)
    where
      go : (t : Bool) → r x z ≡ t → cond t (z ∷ l) (back r x l) ≡ y ∷ b → (back r x l ≡ y ∷ b → r x y ≡ true) → r x y ≡ true
      go true q e later = subst (λ (m : List A). All₁ m) e q
        where
          All₁ : List A → Type 0
          All₁ [] = Unit {0}
          All₁ (u ∷ m) = r x u ≡ true
      go false q e later = later e

-- of the rows of list p none passes the test, and cell c holds no row; or c holds the first that does
pub data Found (w : List ℕ) (p : ℕ) (test : ℕ → Bool) (c : ℕ) (l : List ℕ) : Type 0 where
  nobody : All (λ k. test k ≡ false) l → 1024 ≤ load w c → Found w p test c l
  somebody : (a b : List ℕ) (k : ℕ) → l ≡ a ++ k ∷ b → c ≡ ending (head p) a → load w c ≡ k → k < 1024
      → All (λ k. test k ≡ false) a → test k ≡ true → Found w p test c l

module _ (w : List ℕ) (p : ℕ) (r : ℕ → ℕ → Bool) (chained : p ≢ fel) (l : List ℕ) (one : Listed w p l) where
  abbrev a : List ℕ
  a = front r 0 l

  abbrev c : ℕ
  c = walk r 1024 w 0 (head p)

  cell : c ≡ ending (head p) a
  cell = walk-front r w p 0 1024 (head p) l (one.chain chained) (short w p l one)

  parts : a ++ back r 0 l ≡ l
  parts = front-back r 0 l

  rest : Chain w (ending (head p) a) (back r 0 l)
  rest = chain-after w (head p) a (back r 0 l) (subst (Chain w (head p)) (sym parts) (one.chain chained))

  append-nil : (m : List ℕ) → m ++ [] ≡ m
  append-nil [] = refl
  append-nil (x ∷ m) = ap (λ (k : List ℕ). x ∷ k) (append-nil m)

  from : (b : List ℕ) → back r 0 l ≡ b → Found w p (r 0) c l
  unfolding Chain
  from [] e =
      nobody (subst (All (λ k. r 0 k ≡ false)) (sym (append-nil a) ∙ ap (λ (m : List ℕ). a ++ m) (sym e) ∙ parts) (front-none r 0 l))
      (rw cell (subst (Chain w (ending (head p) a)) e rest))
  from (k ∷ b) e =
      let at : Chain w (ending (head p) a) (k ∷ b) = subst (Chain w (ending (head p) a)) e rest in
      somebody a b k (sym parts ∙ ap (λ (m : List ℕ). a ++ m) e) cell (ap (load w) cell ∙ at.0) at.1 (front-none r 0 l)
      (back-first r 0 l k b e)

  pub found : Found w p (r 0) c l
  found = from (back r 0 l) refl
