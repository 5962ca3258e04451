-- What every member of a list is, through the operations on lists: each law is by recursion along the list, as the operation is.
use Rattle.machine.specs.All.{ℕ, zero, suc, ◌≡◌, true, Bool, List, [], ◌∷◌, ◌++◌, map, take, drop, set, get_or, replicate, flat, insert, those, replace_first, Each}
use Rattle.machine.proofs.Basic.Bools.{cond_cases}

-- ---- Claims

pub each_map : {A : Type 0} {P Q : A → Type 0} → ((a : A) → P a → Q a) → (l : List A) → Each P l → Each Q l
each_map f [] h = tt
each_map f (x ∷ l) h = (f x h.0, each_map f l h.1)

pub each-pair : {A : Type 0} (P Q : A → Type 0) (l : List A) → Each P l → Each Q l → Each (λ a. P a × Q a) l
each-pair P Q [] h k = tt
each-pair P Q (x ∷ l) h k = ((h.0, k.0), each-pair P Q l h.1 k.1)

-- a condition that does not speak of the member comes first
pub each-under : {A : Type 0} {C : Type 0} (P : A → Type 0) (l : List A) → (C → Each P l) → Each (λ a. C → P a) l
each-under P [] h = tt
each-under P (x ∷ l) h = ((λ c. (h c).0), each-under P l (λ c. (h c).1))

-- ---- Other members

pub each_mapped : {A B : Type 0} (f : A → B) (P : B → Type 0) (l : List A) → Each (λ x. P (f x)) l → Each P (map f l)
each_mapped f P [] h = tt
each_mapped f P (x ∷ l) h = (h.0, each_mapped f P l h.1)

-- and back
pub each_unmap : {A B : Type 0} (f : A → B) (P : B → Type 0) (l : List A) → Each P (map f l) → Each (λ x. P (f x)) l
each_unmap f P [] h = tt
each_unmap f P (x ∷ l) h = (h.0, each_unmap f P l h.1)

-- ---- Lists made of others

module _ {A : Type 0} (P : A → Type 0) where
  pub each_append : (k l : List A) → Each P k → Each P l → Each P (k ++ l)
  each_append [] l h g = g
  each_append (x ∷ k) l h g = (h.0, each_append k l h.1 g)

  pub each-flat : (ls : List (List A)) → Each (Each P) ls → Each P (flat ls)
  unfolding flat
  each-flat [] h = tt
  each-flat (l ∷ ls) h = each_append l (flat ls) h.0 (each-flat ls h.1)

  pub each-replicate : (n : ℕ) (a : A) → P a → Each P (replicate n a)
  each-replicate zero a p = tt
  each-replicate (suc n) a p = (p, each-replicate n a p)

  pub each_take : (l : List A) → Each P l → Each P (take 1 l)
  each_take [] h = tt
  each_take (x ∷ l) h = (h.0, tt)

  pub each-drop : (l : List A) → Each P l → Each P (drop 1 l)
  each-drop [] h = tt
  each-drop (x ∷ l) h = h.1

  -- ---- One place

  pub each_set : (l : List A) (i : ℕ) (a : A) → Each P l → P a → Each P (set l i a)
  each_set [] i a h p = tt
  each_set (x ∷ l) zero a h p = (p, h.1)
  each_set (x ∷ l) (suc i) a h p = (h.0, each_set l i a h.1 p)

  pub each-get_or : (l : List A) (i : ℕ) (d : A) → Each P l → P d → P (get_or l i d)
  each-get_or [] i d h p = p
  each-get_or (x ∷ l) zero d h p = h.0
  each-get_or (x ∷ l) (suc i) d h p = each-get_or l i d h.1 p

  -- ---- The machine's operations

  pub each-insert : (before : A → A → Bool) (x : A) (l : List A) → P x → Each P l → Each P (insert before x l)
  unfolding insert
  each-insert before x [] p h = (p, tt)
  each-insert before x (y ∷ l) p h =
      cond_cases (Each P) (before x y) _ _ (λ e. (p, h)) (λ e. (h.0, each-insert before x l p h.1))

  pub each-those : (p : A → Bool) (l : List A) → Each P l → Each P (those p l)
  unfolding those
  each-those p [] h = tt
  each-those p (x ∷ l) h = cond_cases (Each P) (p x) _ _ (λ e. (h.0, each-those p l h.1)) (λ e. each-those p l h.1)

  pub each_replace : (p : A → Bool) (few l : List A) → Each P few → Each P l → Each P (replace_first p few l)
  unfolding replace_first
  each_replace p few [] k h = tt
  each_replace p few (x ∷ l) k h =
      cond_cases (Each P) (p x) _ _ (λ e. each_append few l k h.1) (λ e. (h.0, each_replace p few l k h.1))

-- each of those that pass a test passes it
pub each-passes : {A : Type 0} (p : A → Bool) (l : List A) → Each (λ x. p x ≡ true) (those p l)
unfolding those
each-passes p [] = tt
each-passes p (x ∷ l) = cond_cases (Each (λ y. p y ≡ true)) (p x) _ _ (λ e. (e, each-passes p l)) (λ e. each-passes p l)
