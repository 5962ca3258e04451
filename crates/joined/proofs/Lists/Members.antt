-- Part of a sorted list, and a list whose members are renamed: insertion, selection and replacement go through both.
use Rattle.machine.specs.All.{ℕ, ◌<◌, ◌≤◌, ◌≡◌, refl, sym, Bool, true, false, cond, ◌&&◌, ◌||◌, true≢false, ◌⊎◌, inl, inr, List, [], ◌∷◌, ◌++◌, map, reverse, reverse_aux, arith, ltb, eqb, take, drop, ltb-true, ltb-false, lt-ltb, eqb-true, eqb-false, eq-eqb, Transaction, precedes, Event, earlier, insert, those, replace_first, Each, ap, ap₂, ◌∙◌}
use Rattle.machine.proofs.Basic.Bools.{cond_cases}
use Rattle.machine.proofs.Basic.Each.{each_map, each-those, each-insert, each_replace}
use Rattle.machine.proofs.Lists.Sorted.{Sorted, Before, precedes-before, before-precedes}

pub no_true : (b : Bool) → (b ≡ true → ⊥) → b ≡ false
no_true true h = absurd (h refl)
no_true false h = refl

pub strictly : (a b : ℕ) → a ≤ b → (a ≡ b → ⊥) → a < b
strictly a b h n = go (ltb a b) refl
  where
    go : (c : Bool) → ltb a b ≡ c → a < b
    go true e = ltb-true a b e
    go false e = absurd (n (omega (arith, ltb-false a b e)))

-- ---- Renamed

module _ {A B : Type 0} (f : A → B) where
  -- renaming goes through insertion where it keeps the order
  pub insert-map : (before : B → B → Bool) (before' : A → A → Bool) (x : A) (l : List A) → Each (λ y. before (f x) (f y) ≡ before' x y) l
      → insert before (f x) (map f l) ≡ map f (insert before' x l)
  unfolding insert
  insert-map before before' x [] h = refl
  insert-map before before' x (y ∷ l) h = go (before' x y) h.0 (insert-map before before' x l h.1)
    where
      go : (b : Bool) → before (f x) (f y) ≡ b → insert before (f x) (map f l) ≡ map f (insert before' x l)
          → cond (before (f x) (f y)) (f x ∷ f y ∷ map f l) (f y ∷ insert before (f x) (map f l)) ≡ map f
          (cond b (x ∷ y ∷ l) (y ∷ insert before' x l))
      go true e k = rw e
      go false e k = rw e (ap (λ r. f y ∷ r) k)

  -- through selection where the test is the same before and after
  pub those-map : (p : B → Bool) (q : A → Bool) (l : List A) → Each (λ x. p (f x) ≡ q x) l → those p (map f l) ≡ map f (those q l)
  unfolding those
  those-map p q [] h = refl
  those-map p q (x ∷ l) h = go (q x) h.0 (those-map p q l h.1)
    where
      go : (b : Bool) → p (f x) ≡ b → those p (map f l) ≡ map f (those q l)
          → cond (p (f x)) (f x ∷ those p (map f l)) (those p (map f l)) ≡ map f (cond b (x ∷ those q l) (those q l))
      go true e k = rw e (ap (λ r. f x ∷ r) k)
      go false e k = rw e k

  -- and so through replacement
  pub replace-map : (p : B → Bool) (q : A → Bool) (few l : List A) → Each (λ x. p (f x) ≡ q x) l
      → replace_first p (map f few) (map f l) ≡ map f (replace_first q few l)
  unfolding replace_first
  replace-map p q few [] h = refl
  replace-map p q few (x ∷ l) h = go (q x) h.0 (replace-map p q few l h.1)
    where
      join : (k : List A) → map f k ++ map f l ≡ map f (k ++ l)
      join [] = refl
      join (y ∷ k) = ap (λ r. f y ∷ r) (join k)

      go : (b : Bool) → p (f x) ≡ b → replace_first p (map f few) (map f l) ≡ map f (replace_first q few l)
          → cond (p (f x)) (map f few ++ map f l) (f x ∷ replace_first p (map f few) (map f l)) ≡ map f
          (cond b (few ++ l) (x ∷ replace_first q few l))
      go true e k = rw e (join few)
      go false e k = rw e (ap (λ r. f x ∷ r) k)

  pub take-map : (l : List A) → take 1 (map f l) ≡ map f (take 1 l)
  take-map [] = refl
  take-map (x ∷ l) = refl

  pub drop-map : (l : List A) → drop 1 (map f l) ≡ map f (drop 1 l)
  drop-map [] = refl
  drop-map (x ∷ l) = refl

  reverse_aux-map : (l r : List A) → reverse_aux (map f l) (map f r) ≡ map f (reverse_aux l r)
  reverse_aux-map [] r = refl
  reverse_aux-map (x ∷ l) r = reverse_aux-map l (x ∷ r)

  pub reverse-map : (l : List A) → reverse (map f l) ≡ map f (reverse l)
  reverse-map l = reverse_aux-map l []

  -- two names for each member
  pub map_same : (g : A → B) (l : List A) → Each (λ x. f x ≡ g x) l → map f l ≡ map g l
  map_same g [] h = refl
  map_same g (x ∷ l) h = ap₂ (λ y r. y ∷ r) h.0 (map_same g l h.1)

-- a test that says the same of every member
pub all_same : {A : Type 0} (P : A → Type 0) → ((x : A) → P x) → (l : List A) → Each P l
all_same P h [] = tt
all_same P h (x ∷ l) = (h x, all_same P h l)

-- ---- A part: those that pass a test p

module _ {A : Type 0} (p : A → Bool) where
  -- who does not pass comes and goes unseen
  pub those-insert-other : (before : A → A → Bool) (x : A) (l : List A) → p x ≡ false → those p (insert before x l) ≡ those p l
  unfolding insert those
  those-insert-other before x [] e = rw e
  those-insert-other before x (y ∷ l) e =
      let rest = those-insert-other before x l e in
      cond_cases (λ (k : List A). those p k ≡ cond (p y) (y ∷ those p l) (those p l)) (before x y) _ _ (λ d. rw e) (λ d. rw rest)

  -- who is removed was not among those that are seen
  pub those_replace-other : (q : A → Bool) (l : List A) → Each (λ x. q x ≡ true → p x ≡ false) l → those p (replace_first q [] l) ≡ those p l
  unfolding replace_first those
  those_replace-other q [] h = refl
  those_replace-other q (x ∷ l) h =
      let rest = those_replace-other q l h.1 in
      cond_cases (λ (k : List A). those p k ≡ cond (p x) (x ∷ those p l) (those p l)) (q x) _ _ (λ e. rw (h.0 e)) (λ e. rw rest)

  -- only such members are replaced
  pub those_replace : (q : A → Bool) (l : List A) → Each (λ x. q x ≡ true → p x ≡ true) l
      → those p (replace_first q [] l) ≡ replace_first q [] (those p l)
  unfolding replace_first those
  those_replace q [] h = refl
  those_replace q (x ∷ l) h = go (q x) refl (p x) refl (those_replace q l h.1)
    where
      go : (b : Bool) → q x ≡ b → (c : Bool) → p x ≡ c → those p (replace_first q [] l) ≡ replace_first q [] (those p l)
          → those p (cond b l (x ∷ replace_first q [] l)) ≡ replace_first q [] (cond c (x ∷ those p l) (those p l))
      go true e true d k = rw e
      go true e false d k = absurd (true≢false (sym (h.0 e) ∙ d))
      go false e true d k = rw (e, d, k)
      go false e false d k = rw (d, k)

  -- two selections in either order
  pub those-those : (q : A → Bool) (l : List A) → those p (those q l) ≡ those q (those p l)
  unfolding those
  those-those q [] = refl
  those-those q (x ∷ l) = go (q x) refl (p x) refl (those-those q l)
    where
      go : (b : Bool) → q x ≡ b → (c : Bool) → p x ≡ c → those p (those q l) ≡ those q (those p l)
          → those p (cond b (x ∷ those q l) (those q l)) ≡ those q (cond c (x ∷ those p l) (those p l))
      go true e true d k = rw (e, d, k)
      go true e false d k = rw (d, k)
      go false e true d k = rw (e, k)
      go false e false d k = k

  pub those-all : (l : List A) → Each (λ x. p x ≡ true) l → those p l ≡ l
  unfolding those
  those-all [] h = refl
  those-all (x ∷ l) h = rw (h.0, those-all l h.1)

-- ---- Insertion into a sorted list, and into a part of it: whoever precedes y precedes all that do not precede y

pub record Order {A : Type 0} (before : A → A → Bool) : Type 0 where
  pub asym : (x y : A) → before x y ≡ true → before y x ≡ false
  -- who precedes y precedes all that do not precede y
  pub after : (x y z : A) → before x y ≡ true → before z y ≡ false → before x z ≡ true

module _ {A : Type 0} (before : A → A → Bool) (O : Order before) where
  insert-front : (x : A) (l : List A) → Each (λ z. before x z ≡ true) l → insert before x l ≡ x ∷ l
  unfolding insert
  insert-front x [] h = refl
  insert-front x (y ∷ l) h = rw h.0

  -- the part of a sorted list, with a new member of the part, is the sorted part with that member
  pub those-insert : (p : A → Bool) (x : A) (l : List A) → Sorted before l → p x ≡ true
      → those p (insert before x l) ≡ insert before x (those p l)
  unfolding insert those
  those-insert p x [] h d = rw d (sym (insert-front x [] tt))
  those-insert p x (y ∷ l) h d = go (before x y) refl (p y) refl (those-insert p x l h.1 d)
    where
      all : before x y ≡ true → Each (λ z. before x z ≡ true) (those p (y ∷ l))
      all e = each-those (λ z. before x z ≡ true) p (y ∷ l) (e, each_map (λ z n. O.after x y z e n) l h.0)

      go : (b : Bool) → before x y ≡ b → (c : Bool) → p y ≡ c → those p (insert before x l) ≡ insert before x (those p l)
          → those p (cond b (x ∷ y ∷ l) (y ∷ insert before x l)) ≡ insert before x (cond c (y ∷ those p l) (those p l))
      go true e c q k =
          rw d (ap (λ (r : List A). x ∷ r) (ap (λ (b : Bool). cond b (y ∷ those p l) (those p l)) q)
          ∙ sym (insert-front x _ (rw q at (all e))))
      go false e true q k = rw (q, e, k)
      go false e false q k = rw (q, k)

  pub sorted_insert : (x : A) (l : List A) → Sorted before l → Sorted before (insert before x l)
  unfolding insert
  sorted_insert x [] h = (tt, tt)
  sorted_insert x (y ∷ l) h =
      cond_cases (Sorted before) (before x y) _ _
      (λ e. ((O.asym x y e, each_map (λ z n. O.asym x z (O.after x y z e n)) l h.0), h))
      (λ e. (each-insert (λ z. before z y ≡ false) before x l e h.0, sorted_insert x l h.1))

pub sorted_replace : {A : Type 0} (before : A → A → Bool) (q : A → Bool) (l : List A) → Sorted before l
    → Sorted before (replace_first q [] l)
unfolding replace_first
sorted_replace before q [] h = tt
sorted_replace before q (x ∷ l) h =
    cond_cases (Sorted before) (q x) _ _ (λ e. h.1)
    (λ e. (each_replace (λ y. before y x ≡ false) q [] l tt h.0, sorted_replace before q l h.1))

-- ---- By priority and serial; by move time first

not-before : (a b : Transaction) → precedes a b ≡ false
    → (a.priority < b.priority) ⊎ ((a.priority ≡ b.priority) × (b.serial ≤ a.serial))
unfolding precedes
not-before a b = go (ltb b.priority a.priority) refl (eqb a.priority b.priority) refl
  where
    go : (h : Bool) → ltb b.priority a.priority ≡ h → (q : Bool) → eqb a.priority b.priority ≡ q
        → (h || (q && ltb a.serial b.serial)) ≡ false
        → (a.priority < b.priority) ⊎ ((a.priority ≡ b.priority) × (b.serial ≤ a.serial))
    go true eh q eq e = absurd (true≢false e)
    go false eh true eq e = inr (eqb-true _ _ eq, ltb-false _ _ e)
    go false eh false eq e = inl (strictly a.priority b.priority (ltb-false _ _ eh) (eqb-false _ _ eq))

before-after : (x y z : Transaction) → Before x y → (z.priority < y.priority) ⊎ ((z.priority ≡ y.priority) × (y.serial ≤ z.serial))
    → Before x z
before-after x y z (inl h) (inl k) = inl (omega arith)
before-after x y z (inl h) (inr k) = inl (omega arith)
before-after x y z (inr h) (inl k) = inl (omega arith)
before-after x y z (inr h) (inr k) = inr (omega arith)

before-asym : (a b : Transaction) → Before a b → Before b a → ⊥
before-asym a b (inl h) (inl k) = omega arith
before-asym a b (inl h) (inr k) = omega arith
before-asym a b (inr h) (inl k) = omega arith
before-asym a b (inr h) (inr k) = omega arith

pub by_precedence : Order precedes
by_precedence =
    record {
      asym = λ x y e. no_true (precedes y x) (λ d. before-asym x y (precedes-before x y e) (precedes-before y x d));
      after = λ x y z e d. before-precedes x z (before-after x y z (precedes-before x y e) (not-before z y d));
    }

-- events and gatherers are ordered as the transactions that they hold
pub by-holder : {A : Type 0} (who : A → Transaction) → Order (λ a b. precedes (who a) (who b))
by-holder who = record { asym = λ x y. by_precedence.asym (who x) (who y); after = λ x y z. by_precedence.after (who x) (who y) (who z) }

-- the FEL's order, as a statement
data Sooner (a b : Event) : Type 0 where
  sooner : a.time < b.time → Sooner a b
  tied : a.time ≡ b.time → precedes a.who b.who ≡ true → Sooner a b

earlier-sooner : (a b : Event) → earlier a b ≡ true → Sooner a b
unfolding earlier
earlier-sooner a b = go (ltb a.time b.time) refl (eqb a.time b.time) refl
  where
    go : (x : Bool) → ltb a.time b.time ≡ x → (y : Bool) → eqb a.time b.time ≡ y
        → (x || (y && precedes a.who b.who)) ≡ true → Sooner a b
    go true e y d h = sooner (ltb-true _ _ e)
    go false e true d h = tied (eqb-true _ _ d) h
    go false e false d h = absurd (true≢false (sym h))

sooner-earlier : (a b : Event) → Sooner a b → earlier a b ≡ true
unfolding earlier
sooner-earlier a b (sooner h) = rw (lt-ltb _ _ h)
sooner-earlier a b (tied e h) = go (ltb a.time b.time)
  where
    go : (x : Bool) → (x || (eqb a.time b.time && precedes a.who b.who)) ≡ true
    go true = refl
    go false = rw (eq-eqb _ _ e) h

not-sooner : (a b : Event) → earlier a b ≡ false → (b.time < a.time) ⊎ ((a.time ≡ b.time) × (precedes a.who b.who ≡ false))
unfolding earlier
not-sooner a b = go (ltb a.time b.time) refl (eqb a.time b.time) refl
  where
    go : (x : Bool) → ltb a.time b.time ≡ x → (y : Bool) → eqb a.time b.time ≡ y
        → (x || (y && precedes a.who b.who)) ≡ false
        → (b.time < a.time) ⊎ ((a.time ≡ b.time) × (precedes a.who b.who ≡ false))
    go true e y d h = absurd (true≢false h)
    go false e true d h = inr (eqb-true _ _ d, h)
    go false e false d h = inl (strictly b.time a.time (ltb-false _ _ e) (λ q. eqb-false _ _ d (sym q)))

sooner-after : (x y z : Event) → Sooner x y → (y.time < z.time) ⊎ ((z.time ≡ y.time) × (precedes z.who y.who ≡ false))
    → Sooner x z
sooner-after x y z (sooner h) (inl k) = sooner (omega arith)
sooner-after x y z (sooner h) (inr k) = sooner (omega (arith, k.0))
sooner-after x y z (tied e h) (inl k) = sooner (omega arith)
sooner-after x y z (tied e h) (inr k) = tied (e ∙ sym k.0) (by_precedence.after x.who y.who z.who h k.1)

sooner-asym : (x y : Event) → Sooner x y → Sooner y x → ⊥
sooner-asym x y (sooner h) (sooner k) = omega arith
sooner-asym x y (sooner h) (tied e k) = omega arith
sooner-asym x y (tied e h) (sooner k) = omega arith
sooner-asym x y (tied e h) (tied d k) = true≢false (sym k ∙ by_precedence.asym x.who y.who h)

pub by-time : Order earlier
by-time =
    record {
      asym = λ x y e. no_true (earlier y x) (λ d. sooner-asym x y (earlier-sooner x y e) (earlier-sooner y x d));
      after = λ x y z e d. sooner-earlier x z (sooner-after x y z (earlier-sooner x y e) (not-sooner z y d));
    }
