-- Lists sorted in the weak form, "no later element precedes an earlier one", over any transitive and irreflexive order; what
-- every or some member of a list is, and how insertion and selection keep it. REL and each QL are sorted by `precedes`.
-- Of the FEL's order, what it says of move times.
use Rattle.machine.specs.All.{ℕ, zero, suc, ◌<◌, ◌≤◌, ◌≡◌, refl, sym, Bool, true, false, ◌&&◌, ◌||◌, true≢false, ◌⊎◌, inl, inr, List, [], ◌∷◌, ◌++◌, arith, ltb, eqb, get_or, set, drop, ltb-true, ltb-false, lt-ltb, eqb-true, eq-eqb, Transaction, precedes, Event, earlier, insert, those, replace_first, Each, ◌∙◌}
use Rattle.machine.proofs.{Basic.Bools.cond_cases, Basic.Each.each_map}
pub use Rattle.machine.proofs.Basic.Each.{each-insert, each-those, each_replace, each-passes, each-drop}

untrue : (b : Bool) → (b ≡ true → ⊥) → b ≡ false
untrue true h = absurd (h refl)
untrue false h = refl

-- ---- Every member, some member

module _ {A : Type 0} where
  abbrev pub Some : (A → Type 0) → List A → Type 0
  Some P [] = ⊥
  Some P (x ∷ l) = P x ⊎ Some P l

  pub some-insert : (P : A → Type 0) (before : A → A → Bool) (x : A) (l : List A) → Some P l → Some P (insert before x l)
  unfolding insert
  some-insert P before x [] h = absurd h
  some-insert P before x (y ∷ l) (inl p) = cond_cases (Some P) (before x y) _ _ (λ e. inr (inl p)) (λ e. inl p)
  some-insert P before x (y ∷ l) (inr h) =
      cond_cases (Some P) (before x y) _ _ (λ e. inr (inr h)) (λ e. inr (some-insert P before x l h))

  pub some_inserted : (P : A → Type 0) (before : A → A → Bool) (x : A) (l : List A) → P x → Some P (insert before x l)
  unfolding insert
  some_inserted P before x [] p = inl p
  some_inserted P before x (y ∷ l) p =
      cond_cases (Some P) (before x y) _ _ (λ e. inl p) (λ e. inr (some_inserted P before x l p))

  -- ---- One place of a list changed

  -- a property of the place j, where the change at i gives it or the old element has it
  pub at_set : (P : A → Type 0) (l : List A) (i j : ℕ) (a d : A) → (j ≡ i → P a) → P (get_or l j d) → P (get_or (set l i a) j d)
  at_set P [] i j a d new old = old
  at_set P (x ∷ l) zero zero a d new old = new refl
  at_set P (x ∷ l) zero (suc j) a d new old = old
  at_set P (x ∷ l) (suc i) zero a d new old = old
  at_set P (x ∷ l) (suc i) (suc j) a d new old = at_set P l i j a d (λ e. new (rw e)) old

  -- ---- Sorted

  abbrev pub Sorted : (A → A → Bool) → List A → Type 0
  Sorted before [] = Unit {0}
  Sorted before (x ∷ l) = Each (λ y. before y x ≡ false) l × Sorted before l

  pub sorted-drop : (before : A → A → Bool) (l : List A) → Sorted before l → Sorted before (drop 1 l)
  sorted-drop before [] h = tt
  sorted-drop before (x ∷ l) h = h.1

  pub sorted-those : (before : A → A → Bool) (p : A → Bool) (l : List A) → Sorted before l → Sorted before (those p l)
  unfolding those
  sorted-those before p [] h = tt
  sorted-those before p (x ∷ l) h =
      cond_cases (Sorted before) (p x) _ _
      (λ e. (each-those (λ y. before y x ≡ false) p l h.0, sorted-those before p l h.1)) (λ e. sorted-those before p l h.1)

  module _ (before : A → A → Bool) (asym : (a b : A) → before a b ≡ true → before b a ≡ false)
      (trans : (a b c : A) → before a b ≡ true → before b c ≡ true → before a c ≡ true) where
    -- who does not precede y does not precede what precedes y
    behind : (x y z : A) → before x y ≡ true → before z y ≡ false → before z x ≡ false
    behind x y z xy zy = untrue (before z x) (λ zx. true≢false (sym (trans z x y zx xy) ∙ zy))

    sorted_insert : (x : A) (l : List A) → Sorted before l → Sorted before (insert before x l)
    unfolding insert
    sorted_insert x [] h = (tt, tt)
    sorted_insert x (y ∷ l) h =
        cond_cases (Sorted before) (before x y) _ _ (λ e. ((asym x y e, each_map (λ z n. behind x y z e n) l h.0), h))
        (λ e. (each-insert (λ z. before z y ≡ false) before x l e h.0, sorted_insert x l h.1))

-- ---- By priority, high first, then by serial

-- as a statement
abbrev pub Before : Transaction → Transaction → Type 0
Before a b = (b.priority < a.priority) ⊎ ((a.priority ≡ b.priority) × (a.serial < b.serial))

pub precedes-before : (a b : Transaction) → precedes a b ≡ true → Before a b
unfolding precedes
precedes-before a b = go (ltb b.priority a.priority) refl (eqb a.priority b.priority) refl
  where
    go : (h : Bool) → ltb b.priority a.priority ≡ h → (q : Bool) → eqb a.priority b.priority ≡ q
        → (h || (q && ltb a.serial b.serial)) ≡ true → Before a b
    go true eh q eq e = inl (ltb-true _ _ eh)
    go false eh true eq e = inr (eqb-true _ _ eq, ltb-true _ _ e)
    go false eh false eq e = absurd (true≢false (sym e))

pub before-precedes : (a b : Transaction) → Before a b → precedes a b ≡ true
unfolding precedes
before-precedes a b (inl h) = rw (lt-ltb _ _ h)
before-precedes a b (inr h) = go (ltb b.priority a.priority)
  where
    go : (x : Bool) → (x || (eqb a.priority b.priority && ltb a.serial b.serial)) ≡ true
    go true = refl
    go false = rw (eq-eqb _ _ h.0, lt-ltb _ _ h.1)

before_trans : (a b c : Transaction) → Before a b → Before b c → Before a c
before_trans a b c (inl h) (inl k) = inl (omega arith)
before_trans a b c (inl h) (inr k) = inl (omega arith)
before_trans a b c (inr h) (inl k) = inl (omega arith)
before_trans a b c (inr h) (inr k) = inr (omega arith)

before-asym : (a b : Transaction) → Before a b → Before b a → ⊥
before-asym a b (inl h) (inl k) = omega arith
before-asym a b (inl h) (inr k) = omega arith
before-asym a b (inr h) (inl k) = omega arith
before-asym a b (inr h) (inr k) = omega arith

precedes_trans : (a b c : Transaction) → precedes a b ≡ true → precedes b c ≡ true → precedes a c ≡ true
precedes_trans a b c h k = before-precedes a c (before_trans a b c (precedes-before a b h) (precedes-before b c k))

precedes-asym : (a b : Transaction) → precedes a b ≡ true → precedes b a ≡ false
precedes-asym a b h = untrue (precedes b a) (λ e. before-asym a b (precedes-before a b h) (precedes-before b a e))

-- the law above, of the order of REL and of each QL
pub sorted_in : (t : Transaction) (l : List Transaction) → Sorted precedes l → Sorted precedes (insert precedes t l)
sorted_in t l h = sorted_insert precedes precedes-asym precedes_trans t l h

-- ---- The FEL, by move time first

pub earlier-time : (a b : Event) → earlier a b ≡ true → a.time ≤ b.time
unfolding earlier
earlier-time a b = go (ltb a.time b.time) refl (eqb a.time b.time) refl
  where
    go : (x : Bool) → ltb a.time b.time ≡ x → (y : Bool) → eqb a.time b.time ≡ y
        → (x || (y && precedes a.who b.who)) ≡ true → a.time ≤ b.time
    go true e y d h = omega (arith, ltb-true a.time b.time e)
    go false e true d h = omega (arith, eqb-true a.time b.time d)
    go false e false d h = absurd (true≢false (sym h))

pub later-time : (a b : Event) → earlier a b ≡ false → b.time ≤ a.time
unfolding earlier
later-time a b = go (ltb a.time b.time) refl
  where
    go : (x : Bool) → ltb a.time b.time ≡ x → (x || (eqb a.time b.time && precedes a.who b.who)) ≡ false
        → b.time ≤ a.time
    go true e h = absurd (true≢false h)
    go false e h = ltb-false a.time b.time e
