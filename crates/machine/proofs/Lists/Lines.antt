-- Coming onto a QL or WEL and parting a QL, under either edition: the members and their sums are those of the list, with the new one;
-- only where it stands depends on the edition. Under edition 1 a line stays in order.
use Rattle.machine.specs.All.{ℕ, ◌+◌, ◌-◌, ◌≡◌, refl, Bool, List, [], ◌∷◌, ◌++◌, reverse, reverse-cons, arith, eq-eqb, eqb, ltb, leb, Transaction, precedes, insert, any_of, View, Share, facility, storage, above_one, BlockModel, from_back, line_up, Parted, first_of, units_of_lem, first_of_one, from_front, queue_remove, part_for, Each}
use Rattle.machine.proofs as our
use our.Basic.Bools.{cond_cases}
use our.Basic.Each.{each-insert, each-those}
use our.Lists.Sums.{sum_on, sum-append, sum-insert, sum-those, sum_first}
use our.Lists.Sorted.{Sorted, sorted_in}

-- ---- From the back

module _ {A : Type 0} where
  each_append : (P : A → Type 0) (k l : List A) → Each P k → Each P l → Each P (k ++ l)
  each_append P [] l h g = g
  each_append P (x ∷ k) l h g = (h.0, each_append P k l h.1 g)

  each-reverse : (P : A → Type 0) (l : List A) → Each P l → Each P (reverse l)
  each-reverse P [] h = tt
  each-reverse P (x ∷ l) h = rw (reverse-cons x l) (each_append P (reverse l) (x ∷ []) (each-reverse P l h.1) (h.0, tt))

  sum-reverse : (f : A → ℕ) (l : List A) → sum_on f (reverse l) ≡ sum_on f l
  sum-reverse f [] = refl
  sum-reverse f (x ∷ l) = rw (reverse-cons x l) (omega (arith, sum-append f (reverse l) (x ∷ []), sum-reverse f l))

-- ---- Coming onto a line

-- the test of `from_back`
abbrev pub meets : Transaction → Transaction → Bool
meets a b = leb a.priority b.priority

-- wherever the edition puts the newcomer, the sum is the same
pub sum-line_up : (f : Transaction → ℕ) (edition : ℕ) (t : Transaction) (l : List Transaction)
    → sum_on f (line_up edition t l) ≡ f t + sum_on f l
unfolding line_up from_back
sum-line_up f edition t l =
    let same : List Transaction → Type 0 = λ k. sum_on f k ≡ f t + sum_on f l in
    cond_cases same (eqb edition 1) _ _ (λ e. sum-insert f precedes t l)
    (λ e. cond_cases same t.returning _ _ (λ r. refl)
    (λ r. omega (arith, sum-reverse f (insert meets t (reverse l)), sum-insert f meets t (reverse l), sum-reverse f l)))

pub each-line_up : (P : Transaction → Type 0) (edition : ℕ) (t : Transaction) (l : List Transaction) → P t → Each P l
    → Each P (line_up edition t l)
unfolding line_up from_back
each-line_up P edition t l p h =
    cond_cases (Each P) (eqb edition 1) _ _ (λ e. each-insert P precedes t l p h)
    (λ e. cond_cases (Each P) t.returning _ _ (λ r. (p, h))
    (λ r. each-reverse P (insert meets t (reverse l)) (each-insert P meets t (reverse l) p (each-reverse P l h))))

-- edition 1
pub line_up-one : (edition : ℕ) (t : Transaction) (l : List Transaction) → edition ≡ 1 → line_up edition t l ≡ insert precedes t l
unfolding line_up
line_up-one edition t l e = rw (eq-eqb edition 1 e)

-- edition 2 lines up by order of coming, so only edition 1 keeps a line sorted
pub sorted-line_up : (edition : ℕ) (t : Transaction) (l : List Transaction) → edition ≡ 1 → Sorted precedes l
    → Sorted precedes (line_up edition t l)
sorted-line_up edition t l e h = rw (line_up-one edition t l e) (sorted_in t l h)

-- ---- Parting a line

-- who goes and who stays weigh together what all do
abbrev pub Whole : (Transaction → ℕ) → (List Transaction → Parted) → List Transaction → Type 0
Whole f part l = sum_on f (part l).go + sum_on f (part l).stay ≡ sum_on f l

-- what each is, each of both is
abbrev pub Both : (Transaction → Type 0) → Parted → Type 0
Both P p = Each P p.go × Each P p.stay

both_first : (P : Transaction → Type 0) (l : List Transaction) → Each P l → Both P (first_of l)
both_first P [] h = (tt, tt)
both_first P (t ∷ l) h = ((h.0, tt), h.1)

module _ (f : Transaction → ℕ) (m : BlockModel) where
  sum-first_of_one : (l : List Transaction) → Whole f (first_of_one m) l
  unfolding first_of_one
  sum-first_of_one [] = refl
  sum-first_of_one (t ∷ l) =
      let rest = sum-first_of_one l in
      cond_cases (λ (p : Parted). sum_on f p.go + sum_on f p.stay ≡ f t + sum_on f l) (eqb (units_of_lem m t) 1) _ _ (λ e. omega arith)
      (λ e. omega arith)

  sum-from_front : (b : ℕ) (l : List Transaction) → Whole f (from_front m b) l
  unfolding from_front
  sum-from_front b [] = refl
  sum-from_front b (t ∷ l) =
      let stays = sum-from_front b l in
      let goes = sum-from_front (b - units_of_lem m t) l in
      let same : Parted → Type 0 = λ p. sum_on f p.go + sum_on f p.stay ≡ f t + sum_on f l in
      cond_cases same (eqb b (units_of_lem m t)) _ _ (λ e. omega arith)
      (λ e. cond_cases same (ltb b (units_of_lem m t)) _ _ (λ d. omega arith) (λ d. omega arith))

  -- who goes and who stays are together those that waited
  pub sum-part_for : (x : Share) (w : View) (l : List Transaction) → Whole f (part_for m x w) l
  unfolding part_for queue_remove
  sum-part_for (facility v) w l = sum_first f l
  sum-part_for (storage v b) w l =
      let same : Parted → Type 0 = λ p. sum_on f p.go + sum_on f p.stay ≡ sum_on f l in
      cond_cases same (eqb m.edition 1) _ _ (λ e. sum-those f _ l)
      (λ e. cond_cases same (any_of above_one m.blocks) _ _
      (λ a. cond_cases same (eqb b 1) _ _ (λ o. sum-first_of_one l) (λ o. sum-from_front b l)) (λ a. sum_first f l))

module _ (P : Transaction → Type 0) (m : BlockModel) where
  both-first_of_one : (l : List Transaction) → Each P l → Both P (first_of_one m l)
  unfolding first_of_one
  both-first_of_one [] h = (tt, tt)
  both-first_of_one (t ∷ l) h =
      let rest = both-first_of_one l h.1 in
      cond_cases (Both P) (eqb (units_of_lem m t) 1) _ _ (λ e. ((h.0, tt), h.1)) (λ e. (rest.0, (h.0, rest.1)))

  both-from_front : (b : ℕ) (l : List Transaction) → Each P l → Both P (from_front m b l)
  unfolding from_front
  both-from_front b [] h = (tt, tt)
  both-from_front b (t ∷ l) h =
      let stays = both-from_front b l h.1 in
      let goes = both-from_front (b - units_of_lem m t) l h.1 in
      cond_cases (Both P) (eqb b (units_of_lem m t)) _ _ (λ e. ((h.0, tt), h.1))
      (λ e. cond_cases (Both P) (ltb b (units_of_lem m t)) _ _ (λ d. (stays.0, (h.0, stays.1))) (λ d. ((h.0, goes.0), goes.1)))

  pub both-part_for : (x : Share) (w : View) (l : List Transaction) → Each P l → Both P (part_for m x w l)
  unfolding part_for queue_remove
  both-part_for (facility v) w l h = both_first P l h
  both-part_for (storage v b) w l h =
      cond_cases (Both P) (eqb m.edition 1) _ _ (λ e. (each-those P _ l h, each-those P _ l h))
      (λ e. cond_cases (Both P) (any_of above_one m.blocks) _ _
      (λ a. cond_cases (Both P) (eqb b 1) _ _ (λ o. both-first_of_one l h) (λ o. both-from_front b l h)) (λ a. both_first P l h))
