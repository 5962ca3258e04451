-- Those of a list that pass a test, as one comes into the list or leaves it, and lists of one number or none.
use Rattle.machine.specs.All.{ℕ, ◌<◌, ◌≡◌, refl, ap, ◌∙◌, Bool, true, false, cond, List, [], ◌∷◌, ◌++◌, map, arith, eqb-true, eqb-false, eqb, length, Interrupted, insert, those, replace_first, get_or, drop}

module _ {A : Type 0} (q : A → Bool) where
  pub those-join : (k l : List A) → those q (k ++ l) ≡ those q k ++ those q l
  unfolding those
  those-join [] l = refl
  those-join (x ∷ k) l = go (q x) (those-join k l)
    where
      go : (b : Bool) → those q (k ++ l) ≡ those q k ++ those q l
          → cond b (x ∷ those q (k ++ l)) (those q (k ++ l)) ≡ cond b (x ∷ those q k) (those q k) ++ those q l
      go true h = ap (λ (r : List A). x ∷ r) h
      go false h = h

  -- a newcomer that fails the test leaves those that pass as they were
  pub those-insert : (before : A → A → Bool) (x : A) (l : List A) → q x ≡ false → those q (insert before x l) ≡ those q l
  unfolding insert those
  those-insert before x [] e = rw e
  those-insert before x (y ∷ l) e = go (before x y) (those-insert before x l e)
    where
      go : (b : Bool) → those q (insert before x l) ≡ those q l → those q (cond b (x ∷ y ∷ l) (y ∷ insert before x l)) ≡ those q (y ∷ l)
      go true h = unfold those in (rw e)
      go false h = unfold those in (rw h)

  -- a newcomer that passes, where nobody did, is the only one
  pub those-one : (before : A → A → Bool) (x : A) (l : List A) → q x ≡ true → those q l ≡ [] → those q (insert before x l) ≡ x ∷ []
  unfolding insert those
  those-one before x [] e h = rw e
  those-one before x (y ∷ l) e h = go (before x y) (q y) h refl (those-one before x l e)
    where
      go : (b c : Bool) → cond c (y ∷ those q l) (those q l) ≡ [] → q y ≡ c → (those q l ≡ [] → those q (insert before x l) ≡ x ∷ [])
          → those q (cond b (x ∷ y ∷ l) (y ∷ insert before x l)) ≡ x ∷ []
      go b true h d later = absurd (omega (arith, ap (λ (k : List A). length k) h))
      go true false h d later = unfold those in (rw (e, d, h))
      go false false h d later = unfold those in (rw d (later h))

  -- the first that passes another test is replaced
  pub those_else : (p : A → Bool) (few l : List A) → ((x : A) → p x ≡ true → q x ≡ false) → those q few ≡ []
      → those q (replace_first p few l) ≡ those q l
  unfolding replace_first those
  those_else p few [] out e = refl
  those_else p few (y ∷ l) out e = go (p y) refl (those_else p few l out e)
    where
      go : (b : Bool) → p y ≡ b → those q (replace_first p few l) ≡ those q l
          → those q (cond b (few ++ l) (y ∷ replace_first p few l)) ≡ cond (q y) (y ∷ those q l) (those q l)
      go true d h = those-join few l ∙ rw (e, out y d)
      go false d h = unfold those in (rw h)

  -- the first that passes the test itself
  pub those_replaced : (few l : List A) (x : A) (r : List A) → those q l ≡ x ∷ r → those q (replace_first q few l) ≡ those q few ++ r
  unfolding replace_first those
  those_replaced few [] x r e = absurd (omega (arith, ap (λ (k : List A). length k) e))
  those_replaced few (y ∷ l) x r e = go (q y) refl e (those_replaced few l x r)
    where
      go : (b : Bool) → q y ≡ b → cond b (y ∷ those q l) (those q l) ≡ x ∷ r
          → (those q l ≡ x ∷ r → those q (replace_first q few l) ≡ those q few ++ r)
          → those q (cond b (few ++ l) (y ∷ replace_first q few l)) ≡ those q few ++ r
      go true d e later = those-join few l ∙ ap (λ (k : List A). those q few ++ drop 1 k) e
      go false d e later = unfold those in (rw d (later e))

-- ---- One or none

-- one number, or none where it is 0
abbrev pub upto : ℕ → List ℕ
upto k = cond (eqb k 0) [] (k ∷ [])

pub upto-none : (k : ℕ) → [] ≡ upto k → k ≡ 0
upto-none k e = go (eqb k 0) refl e
  where
    go : (b : Bool) → eqb k 0 ≡ b → [] ≡ cond b [] (k ∷ []) → k ≡ 0
    go true q e = eqb-true k 0 q
    go false q e = absurd (omega (arith, ap (λ (l : List ℕ). length l) e))

-- read backwards: such a list that has a member has that one alone
pub upto-some : (k x : ℕ) (xs : List ℕ) → x ∷ xs ≡ upto k → (x ≡ k) × (xs ≡ []) × (0 < k)
upto-some k x xs e = go (eqb k 0) refl e
  where
    positive : (k ≡ 0 → ⊥) → 0 < k
    positive n = omega arith

    go : (b : Bool) → eqb k 0 ≡ b → x ∷ xs ≡ cond b [] (k ∷ []) → (x ≡ k) × (xs ≡ []) × (0 < k)
    go true q e = absurd (omega (arith, ap (λ (l : List ℕ). length l) e))
    go false q e = (ap (λ (l : List ℕ). get_or l 0 0) e, ap (λ (l : List ℕ). drop 1 l) e, positive (eqb-false k 0 q))

pub none-numbered : (l : List Interrupted) → map (λ i. i.who.number) l ≡ [] → l ≡ []
none-numbered [] e = refl
none-numbered (i ∷ l) e = absurd (omega (arith, ap (λ (k : List ℕ). length k) e))
