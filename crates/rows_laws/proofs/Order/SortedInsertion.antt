-- Sorted insertion, over any order: where the new one comes to stand, and that the list stays sorted.
use Rattle.machine.specs.All.{ℕ, ◌≡◌, refl, sym, ap, ◌∙◌, Bool, true, false, cond, not, List, [], ◌∷◌, ◌++◌, map, arith, not-false, drop, insert, those}
use Rattle.rows_laws.specs.All.{All, Sorted, Strict}

-- ---- Orders

-- what insertion asks of an order: asymmetric, and one that stands before y stands before whoever does not
pub record Order {A : Type 0} (r : A → A → Bool) : Type 0 where
  pub asym : (x y : A) → r x y ≡ true → r y x ≡ false
  pub through : (x m y : A) → r x y ≡ true → r m y ≡ false → r x m ≡ true

pub not-both : {A : Type 0} (b : Bool) → b ≡ true → b ≡ false → A
not-both b e f = let z : ◌≡◌ {A = ℕ} 0 1 = ap (λ (t : Bool). cond t 0 1) (sym e ∙ f) in absurd (omega (arith, z))

module _ {A : Type 0} where
  -- ---- All

  pub all_map : (P Q : A → Type 0) (l : List A) → ((x : A) → P x → Q x) → All P l → All Q l
  unfolding All
  all_map P Q [] f h = tt
  all_map P Q (x ∷ l) f h = (f x h.0, all_map P Q l f h.1)

  pub all_append : (P : A → Type 0) (a b : List A) → All P (a ++ b) → All P a × All P b
  unfolding All
  all_append P [] b h = (tt, h)
  all_append P (x ∷ a) b h = ((h.0, (all_append P a b h.1).0), (all_append P a b h.1).1)

  pub append-all : (P : A → Type 0) (a b : List A) → All P a → All P b → All P (a ++ b)
  unfolding All
  append-all P [] b h g = g
  append-all P (x ∷ a) b h g = (h.0, append-all P a b h.1 g)

  -- ---- The parts before and behind the new one

  unfoldable pub front : (A → A → Bool) → A → List A → List A
  front r x [] = []
  front r x (y ∷ l) = cond (r x y) [] (y ∷ front r x l)

  unfoldable pub back : (A → A → Bool) → A → List A → List A
  back r x [] = []
  back r x (y ∷ l) = cond (r x y) (y ∷ l) (back r x l)

  -- the part that stays in front and the part that comes behind are the list
  pub front-back : (r : A → A → Bool) (x : A) (l : List A) → front r x l ++ back r x l ≡ l
  unfolding front back
  front-back r x [] = refl
  front-back r x (y ∷ l) = go (r x y) (front-back r x l)
    where
      go : (t : Bool) → front r x l ++ back r x l ≡ l → cond t [] (y ∷ front r x l) ++ cond t (y ∷ l) (back r x l) ≡ y ∷ l
      go true e = refl
      go false e = ap (λ (m : List A). y ∷ m) e

  -- insertion puts x between the two parts
  pub insert-split : (r : A → A → Bool) (x : A) (l : List A) → insert r x l ≡ front r x l ++ x ∷ back r x l
  unfolding front back insert
  insert-split r x [] = refl
  insert-split r x (y ∷ l) = go (r x y) (insert-split r x l)
    where
      go : (t : Bool) → insert r x l ≡ front r x l ++ x ∷ back r x l
          → cond t (x ∷ y ∷ l) (y ∷ insert r x l) ≡ cond t [] (y ∷ front r x l) ++ x ∷ cond t (y ∷ l) (back r x l)
      go true e = refl
      go false e = ap (λ (m : List A). y ∷ m) e

  -- ---- Sorted lists

  -- one taken out from the middle
  pub sorted-without : (r : A → A → Bool) (a : List A) (x : A) (b : List A) → Sorted r (a ++ x ∷ b) → Sorted r (a ++ b)
  unfolding Sorted All
  sorted-without r [] x b h = h.1
  sorted-without r (y ∷ a) x b h =
      let parts : All (λ z. r z y ≡ false) a × All (λ z. r z y ≡ false) (x ∷ b) = all_append (λ z. r z y ≡ false) a (x ∷ b) h.0 in
      (append-all (λ z. r z y ≡ false) a b parts.0 parts.1.1, sorted-without r a x b h.1)

  pub sorted-drop : (r : A → A → Bool) (l : List A) → Sorted r l → Sorted r (drop 1 l)
  unfolding Sorted
  sorted-drop r [] h = tt
  sorted-drop r (x ∷ l) h = h.1

  all-those : (P : A → Type 0) (p : A → Bool) (l : List A) → All P l → All P (those p l)
  unfolding All those
  all-those P p [] h = tt
  all-those P p (x ∷ l) h = go (p x) (all-those P p l h.1)
    where
      go : (t : Bool) → All P (those p l) → All P (cond t (x ∷ those p l) (those p l))
      go true rest = (h.0, rest)
      go false rest = rest

  pub sorted-those : (r : A → A → Bool) (p : A → Bool) (l : List A) → Sorted r l → Sorted r (those p l)
  unfolding Sorted those
  sorted-those r p [] h = tt
  sorted-those r p (x ∷ l) h = go (p x) (sorted-those r p l h.1)
    where
      go : (t : Bool) → Sorted r (those p l) → Sorted r (cond t (x ∷ those p l) (those p l))
      go true rest = (all-those (λ y. r y x ≡ false) p l h.0, rest)
      go false rest = rest

  unfoldable pub last_of : A → List A → A
  last_of y [] = y
  last_of y (z ∷ l) = last_of z l

  all-last : (P : A → Type 0) (y : A) (l : List A) → All P (y ∷ l) → P (last_of y l)
  unfolding All last_of
  all-last P y [] h = h.0
  all-last P y (z ∷ l) h = all-last P z l h.1

  module _ (r : A → A → Bool) (o : Order r) where
    all_insert : (P : A → Type 0) (x : A) (l : List A) → P x → All P l → All P (insert r x l)
    unfolding All insert
    all_insert P x [] p h = (p, tt)
    all_insert P x (y ∷ l) p h = go (r x y) (all_insert P x l p h.1)
      where
        go : (t : Bool) → All P (insert r x l) → All P (cond t (x ∷ y ∷ l) (y ∷ insert r x l))
        go true i = (p, h)
        go false i = (h.0, i)

    pub before-none : (z y x : A) → r x y ≡ true → r z y ≡ false → r z x ≡ false
    before-none z y x e f = go (r z x) refl
      where
        go : (t : Bool) → r z x ≡ t → r z x ≡ false
        go true g = not-both (r z y) (o.through z y x g (o.asym x y e)) f
        go false g = g

    pub insert-sorted : (x : A) (l : List A) → Sorted r l → Sorted r (insert r x l)
    unfolding Sorted All insert
    insert-sorted x [] h = (tt, tt)
    insert-sorted x (y ∷ l) h = go (r x y) refl (insert-sorted x l h.1)
      where
        go : (t : Bool) → r x y ≡ t → Sorted r (insert r x l) → Sorted r (cond t (x ∷ y ∷ l) (y ∷ insert r x l))
        go true e i = ((o.asym x y e, all_map (λ z. r z y ≡ false) (λ z. r z x ≡ false) l (λ z f. before-none z y x e f) h.0), h)
        go false e i = (all_insert (λ z. r z y ≡ false) x l e h.0, i)

    -- one that does not stand before the last stands before nobody
    pub not-before : (x m y : A) → r x m ≡ false → r m y ≡ false → r x y ≡ false
    not-before x m y e f = go (r x y) refl
      where
        go : (t : Bool) → r x y ≡ t → r x y ≡ false
        go true g = not-both (r x m) (o.through x m y g f) e
        go false g = g

    -- whoever does not precede the last comes behind all
    pub front-all : (x y : A) (l : List A) → Sorted r (y ∷ l) → r x (last_of y l) ≡ false → front r x (y ∷ l) ≡ y ∷ l
    unfolding Sorted All front last_of
    front-all x y [] h e = rw e
    front-all x y (z ∷ l) h e =
        rw (not-before x (last_of z l) y e (all-last (λ u. r u y ≡ false) z l h.0))
        (ap (λ (m : List A). y ∷ m) (front-all x z l h.1 e))

    -- ---- Lists in which everybody stands before those behind

    before-all : (x : A) (l : List A) → All (λ y. not (r x y) ≡ false) l → All (λ y. r y x ≡ false) l
    before-all x l h = all_map (λ y. not (r x y) ≡ false) (λ y. r y x ≡ false) l (λ y e. o.asym x y (not-false (r x y) e)) h

    pub strict-sorted : (l : List A) → Strict r l → Sorted r l
    unfolding Sorted
    strict-sorted [] h = tt
    strict-sorted (x ∷ l) h = (before-all x l h.0, strict-sorted l h.1)

    pub before_trans : (x y z : A) → r x y ≡ true → r y z ≡ true → r x z ≡ true
    before_trans x y z e f = o.through x z y e (o.asym y z f)

    -- the new one stands before or behind each
    pub insert_strict : (x : A) (l : List A) → All (λ y. r x y ≡ false → r y x ≡ true) l → Strict r l → Strict r (insert r x l)
    unfolding Sorted All insert
    insert_strict x [] c h = (tt, tt)
    insert_strict x (y ∷ l) c h = go (r x y) refl (insert_strict x l c.1 h.1)
      where
        go : (t : Bool) → r x y ≡ t → Strict r (insert r x l) → Strict r (cond t (x ∷ y ∷ l) (y ∷ insert r x l))
        go true e i = (
          (
            ap not e,
            all_map (λ z. not (r y z) ≡ false) (λ z. not (r x z) ≡ false) l (λ z f. ap not (before_trans x y z e (not-false (r y z) f)))
                h.0,
          ),
          h,
        )
        go false e i = (all_insert (λ z. not (r y z) ≡ false) x l (ap not (c.0 e)) h.0, i)

-- ---- The same list under a map

module _ {A B : Type 0} (f : A → B) (s : A → A → Bool) (r : B → B → Bool) (agree : (x y : A) → s x y ≡ r (f x) (f y)) where
  -- where s compares as r compares the images, insertion before or after the mapping is the same
  pub map-insert : (x : A) (l : List A) → map f (insert s x l) ≡ insert r (f x) (map f l)
  unfolding insert
  map-insert x [] = refl
  map-insert x (y ∷ l) = rw (agree x y) (go (r (f x) (f y)) (map-insert x l))
    where
      go : (t : Bool) → map f (insert s x l) ≡ insert r (f x) (map f l)
          → map f (cond t (x ∷ y ∷ l) (y ∷ insert s x l)) ≡ cond t (f x ∷ f y ∷ map f l) (f y ∷ insert r (f x) (map f l))
      go true e = refl
      go false e = ap (λ (m : List B). f y ∷ m) e

  all_unmap : (y : A) (l : List A) → All (λ z. r z (f y) ≡ false) (map f l) → All (λ z. s z y ≡ false) l
  unfolding All
  all_unmap y [] h = tt
  all_unmap y (z ∷ l) h = (agree z y ∙ h.0, all_unmap y l h.1)

  pub sorted_unmap : (l : List A) → Sorted r (map f l) → Sorted s l
  unfolding Sorted
  sorted_unmap [] h = tt
  sorted_unmap (x ∷ l) h = (all_unmap x l h.0, sorted_unmap l h.1)

  pub order_unmap : Order r → Order s
  order_unmap o =
      record {
        asym = λ x y e. agree y x ∙ o.asym (f x) (f y) (sym (agree x y) ∙ e);
        through = λ x m y e g. agree x m ∙ o.through (f x) (f m) (f y) (sym (agree x y) ∙ e) (sym (agree m y) ∙ g);
      }
