-- Sums over lists: what a list's operations do to the sum of any weight of its members. Two lists hold the same members where
-- all weights have equal sums.
use Rattle.machine.specs.All.{ℕ, zero, suc, ◌+◌, ◌≤◌, ◌<◌, ◌≡◌, refl, ap, Bool, true, false, cond, not, List, [], ◌∷◌, ◌++◌, map, arith, eqb-true, eqb-false, eq-eqb, ne_eqb, eqb, length, get_or, set, take, drop, replicate, Transaction, precedes, with_returning, insert, those, others, replace_first, flat, wake, count, bit, up_to, Each, sym, ap₂, ◌∙◌}

-- ---- Definition

abbrev pub sum_on : {A : Type 0} → (A → ℕ) → List A → ℕ
sum_on f [] = 0
sum_on f (x ∷ l) = f x + sum_on f l

-- ---- Operations on lists

module _ {A : Type 0} (f : A → ℕ) where
  pub sum-append : (k l : List A) → sum_on f (k ++ l) ≡ sum_on f k + sum_on f l
  sum-append [] l = omega arith
  sum-append (x ∷ k) l = omega (arith, sum-append k l)

  pub sum-insert : (before : A → A → Bool) (x : A) (l : List A) → sum_on f (insert before x l) ≡ f x + sum_on f l
  unfolding insert
  sum-insert before x [] = refl
  sum-insert before x (y ∷ l) = go (before x y) (sum-insert before x l)
    where
      go : (b : Bool) → sum_on f (insert before x l) ≡ f x + sum_on f l
          → sum_on f (cond b (x ∷ y ∷ l) (y ∷ insert before x l)) ≡ f x + (f y + sum_on f l)
      go true e = refl
      go false e = omega arith

  -- a test parts a list: who passes and who does not weigh together as much as all
  pub sum-those : (p : A → Bool) (l : List A) → sum_on f (those p l) + sum_on f (others p l) ≡ sum_on f l
  unfolding those
  sum-those p [] = refl
  sum-those p (x ∷ l) = go (p x) (sum-those p l)
    where
      go : (b : Bool) → sum_on f (those p l) + sum_on f (others p l) ≡ sum_on f l
          → sum_on f (cond b (x ∷ those p l) (those p l)) + sum_on f (cond (not b) (x ∷ others p l) (others p l)) ≡ f x + sum_on f l
      go true e = omega arith
      go false e = omega arith

  -- those that pass a test, weighed, are all, weighed with the test
  pub sum-test : (p : A → Bool) (l : List A) → sum_on f (those p l) ≡ sum_on (λ x. cond (p x) (f x) 0) l
  unfolding those
  sum-test p [] = refl
  sum-test p (x ∷ l) = go (p x) (sum-test p l)
    where
      go : (b : Bool) → sum_on f (those p l) ≡ sum_on (λ x. cond (p x) (f x) 0) l
          → sum_on f (cond b (x ∷ those p l) (those p l)) ≡ cond b (f x) 0 + sum_on (λ x. cond (p x) (f x) 0) l
      go true e = omega arith
      go false e = omega arith

  -- a few stand in the place of the first that passes a test
  pub sum_replace : (p : A → Bool) (few l : List A) (x : A) (r : List A) → those p l ≡ x ∷ r
      → sum_on f (replace_first p few l) + f x ≡ sum_on f few + sum_on f l
  unfolding those replace_first
  sum_replace p few [] x r e = absurd (omega (arith, ap (λ (k : List A). length k) e))
  sum_replace p few (y ∷ l) x r e = go (p y) e (sum_replace p few l x r)
    where
      go : (b : Bool) → cond b (y ∷ those p l) (those p l) ≡ x ∷ r
          → (those p l ≡ x ∷ r → sum_on f (replace_first p few l) + f x ≡ sum_on f few + sum_on f l)
          → sum_on f (cond b (few ++ l) (y ∷ replace_first p few l)) + f x ≡ sum_on f few + (f y + sum_on f l)
      go true e later = omega (arith, sum-append few l, ap (λ (k : List A). sum_on f (take 1 k)) e)
      go false e later = omega (arith, later e)

  pub sum_first : (l : List A) → sum_on f (take 1 l) + sum_on f (drop 1 l) ≡ sum_on f l
  sum_first [] = refl
  sum_first (x ∷ l) = omega arith

  pub sum-flat-set : (ls : List (List A)) (i : ℕ) (l : List A) → i < length ls
      → sum_on f (flat (set ls i l)) + sum_on f (get_or ls i []) ≡ sum_on f (flat ls) + sum_on f l
  unfolding flat
  sum-flat-set [] i l h = absurd (omega arith)
  sum-flat-set (x ∷ ls) zero l h = omega (arith, sum-append l (flat ls), sum-append x (flat ls))
  sum-flat-set (x ∷ ls) (suc i) l h =
      omega (arith, sum-append x (flat (set ls i l)), sum-append x (flat ls), sum-flat-set ls i l (omega arith))

  pub sum-flat-none : (n : ℕ) → sum_on f (flat (replicate n [])) ≡ 0
  unfolding flat
  sum-flat-none zero = refl
  sum-flat-none (suc n) = sum-flat-none n

  pub sum-zero : ((x : A) → f x ≡ 0) → (l : List A) → sum_on f l ≡ 0
  sum-zero h [] = refl
  sum-zero h (x ∷ l) = omega (arith, h x, sum-zero h l)

module _ {A B : Type 0} (f : B → ℕ) (g : A → B) where
  pub sum-map : (l : List A) → sum_on f (map g l) ≡ sum_on (λ x. f (g x)) l
  sum-map [] = refl
  sum-map (x ∷ l) = ap (λ n. f (g x) + n) (sum-map l)

module _ {A : Type 0} (f g : A → ℕ) where
  pub sum_cong : ((x : A) → f x ≡ g x) → (l : List A) → sum_on f l ≡ sum_on g l
  sum_cong h [] = refl
  sum_cong h (x ∷ l) = ap₂ ◌+◌ (h x) (sum_cong h l)

  pub sum-le : ((x : A) → f x ≤ g x) → (l : List A) → sum_on f l ≤ sum_on g l
  sum-le h [] = omega arith
  sum-le h (x ∷ l) = omega (arith, h x, sum-le h l)

  -- weights that agree at each key that stands in the list
  pub sum_cong-keys : (key : A → ℕ) (l : List A) → ((x : A) → 0 < sum_on (λ y. bit (eqb (key y) (key x))) l → f x ≡ g x)
      → sum_on f l ≡ sum_on g l
  sum_cong-keys key [] h = refl
  sum_cong-keys key (x ∷ l) h =
      ap₂ ◌+◌ (h x (omega (arith, ap bit (eq-eqb (key x) (key x) refl)))) (sum_cong-keys key l (λ y p. h y (omega arith)))

-- each member of a list passes what follows from its key standing there
pub each_member : {A : Type 0} (key : A → ℕ) (P : A → Type 0) (l : List A) → ((x : A) → 0 < sum_on (λ y. bit (eqb (key y) (key x))) l → P x)
    → Each P l
each_member key P [] h = tt
each_member key P (x ∷ l) h = (h x (omega (arith, ap bit (eq-eqb (key x) (key x) refl))), each_member key P l (λ y p. h y (omega arith)))

-- ---- Counting

module _ {A : Type 0} where
  pub sum-length : (l : List A) → sum_on (λ x. 1) l ≡ length l
  sum-length [] = refl
  sum-length (x ∷ l) = omega (arith, sum-length l)

  -- counting is weighing by 1
  pub sum-count : (p : A → Bool) (l : List A) → sum_on (λ x. bit (p x)) l ≡ count p l
  unfolding count those
  sum-count p [] = refl
  sum-count p (x ∷ l) = go (p x) (sum-count p l)
    where
      go : (b : Bool) → sum_on (λ x. bit (p x)) l ≡ length (those p l)
          → bit b + sum_on (λ x. bit (p x)) l ≡ length (cond b (x ∷ those p l) (those p l))
      go true e = omega arith
      go false e = omega arith

  pub count-cons : (p : A → Bool) (x : A) (l : List A) → count p (x ∷ l) ≡ bit (p x) + count p l
  count-cons p x l = sym (sum-count p (x ∷ l)) ∙ ap (λ n. bit (p x) + n) (sum-count p l)

-- ---- Waking

-- returning or not, a transaction weighs the same
pub sum-wake : (f : Transaction → ℕ) → ((t : Transaction) → f (with_returning true t) ≡ f t) → (l rel : List Transaction)
    → sum_on f (wake l rel) ≡ sum_on f l + sum_on f rel
unfolding wake
sum-wake f h [] rel = omega arith
sum-wake f h (t ∷ l) rel =
    omega (arith, sum-wake f h l (insert precedes (with_returning true t) rel), sum-insert f precedes (with_returning true t) rel, h t)

-- ---- Sums over the numbers from 1 on

module _ (f g : ℕ → ℕ) where
  pub up_to_cong : (n : ℕ) → ((k : ℕ) → 1 ≤ k → k ≤ n → f k ≡ g k) → up_to n f ≡ up_to n g
  unfolding up_to
  up_to_cong zero h = refl
  up_to_cong (suc n) h = ap₂ ◌+◌ (up_to_cong n (λ k low high. h k low (omega arith))) (h (suc n) (omega arith) (omega arith))

pub up_to-ones : (n : ℕ) → up_to n (λ k. 1) ≡ n
unfolding up_to
up_to-ones zero = refl
up_to-ones (suc n) = omega (arith, up_to-ones n)

pub up_to-zero : (n : ℕ) (f : ℕ → ℕ) → ((k : ℕ) → 1 ≤ k → k ≤ n → f k ≡ 0) → up_to n f ≡ 0
unfolding up_to
up_to-zero zero f h = refl
up_to-zero (suc n) f h = omega (arith, up_to-zero n f (λ k low high. h k low (omega arith)), h (suc n) (omega arith) (omega arith))

-- one number, not among those up to n, and among them
pub up_to-none : (n i : ℕ) → ((k : ℕ) → 1 ≤ k → k ≤ n → k ≡ i → ⊥) → up_to n (λ k. bit (eqb k i)) ≡ 0
up_to-none n i h = up_to-zero n (λ k. bit (eqb k i)) (λ k low high. ap bit (ne_eqb k i (h k low high)))

pub up_to-one : (n i : ℕ) → 1 ≤ i → i ≤ n → up_to n (λ k. bit (eqb k i)) ≡ 1
unfolding up_to
up_to-one zero i low high = absurd (omega arith)
up_to-one (suc n) i low high = go (eqb (suc n) i) refl (up_to-one n i low)
  where
    go : (b : Bool) → eqb (suc n) i ≡ b → (i ≤ n → up_to n (λ k. bit (eqb k i)) ≡ 1) → up_to n (λ k. bit (eqb k i)) + bit (eqb (suc n) i) ≡ 1
    go true e h =
        let same : suc n ≡ i = eqb-true _ _ e in
        omega (arith, ap bit e, up_to-none n i (λ k a b c. omega arith))
    go false e h = omega (arith, ap bit e, h (below (eqb-false _ _ e)))
      where
        below : (suc n ≡ i → ⊥) → i ≤ n
        below ne = omega arith
