-- Sums over rows: the rows of a list weigh as all rows weigh that have the list for their place.
use Rattle.machine.specs.All.{ℕ, zero, suc, ◌+◌, ◌*◌, ◌≤◌, ◌<◌, add-zero, add-suc, ℕ_discrete, arith, ◌≡◌, refl, sym, ap, ◌∙◌, ◌≢◌, Bool, true, false, cond, List, [], ◌∷◌, le-ltb, eq-eqb, ne_eqb, ltb-true, ltb-false, eqb-true, eqb-false, ltb, eqb, length, get_or, flat}
use Rattle.machine.proofs.Lists.Sums.{sum_on, sum-append}
use Rattle.rows_laws.specs.All.{place, list_count, load, same, occurs, Holds, sum_to}
use Rattle.rows_laws.proofs.Counting.Occurs.{same_refl}
use Rattle.rows_laws.proofs.Counting.Sums.{sum-suc, sum_ext, sum-add, sum-zero, sum-at}

-- ---- Parts of a sum

pub sum-front : (n : ℕ) (f : ℕ → ℕ) → sum_to (suc n) f ≡ f 0 + sum_to n (λ i. f (suc i))
unfolding sum_to
sum-front zero f = omega arith
sum-front (suc n) f = omega (arith, sum-front n f)

pub sum-split : (a b : ℕ) (f : ℕ → ℕ) → sum_to (a + b) f ≡ sum_to a f + sum_to b (λ i. f (a + i))
unfolding sum_to
sum-split a zero f = rw (add-zero a) (omega arith)
sum-split a (suc b) f = rw (add-suc a b) (omega (arith, sum-split a b f))

-- one number only
pub sum-only : (n x : ℕ) (g : ℕ → ℕ) → x < n → sum_to n (λ k. cond (eqb k x) (g k) 0) ≡ g x
sum-only n x g h =
    omega (
      arith,
      sum-at n x (λ k. cond (eqb k x) (g k) 0) (λ k. 0) h (λ k l d. ap (λ t. cond t (g k) 0) (ne_eqb k x d)),
      ap (λ t. cond t (g x) 0) (eq-eqb x x refl),
      sum-zero n (λ k. 0) (λ k l. refl),
    )

-- the members of several lists
pub sum-flat : {A : Type 0} (g : A → ℕ) (ls : List (List A)) (n : ℕ) → length ls ≤ n
    → sum_to n (λ i. sum_on g (get_or ls i [])) ≡ sum_on g (flat ls)
unfolding flat
sum-flat g [] n h = sum-zero n (λ i. 0) (λ k l. refl)
sum-flat g (l ∷ ls) zero h = absurd (omega arith)
sum-flat g (l ∷ ls) (suc n) h =
    omega (arith, sum-front n (λ i. sum_on g (get_or (l ∷ ls) i [])), sum-flat g ls n (omega arith), sum-append g l (flat ls))

-- ---- One row, two rows

pub sum_one : (n : ℕ) (g : ℕ → ℕ) (k : ℕ) → k < n → g k ≤ sum_to n g
sum_one zero g k h = absurd (omega arith)
sum_one (suc n) g k h = go (ℕ_discrete k n) (sum_one n g k)
  where
    go : Dec (k ≡ n) → (k < n → g k ≤ sum_to n g) → g k ≤ sum_to (suc n) g
    go (yes e) rest = omega (arith, sum-suc n g, ap g e)
    go (no d) rest = omega (arith, sum-suc n g, rest (omega arith))

-- two different summands are at most the sum
pub sum-two : (n : ℕ) (g : ℕ → ℕ) (j k : ℕ) → j < n → k < n → j ≢ k → g j + g k ≤ sum_to n g
sum-two zero g j k hj hk d = absurd (omega arith)
sum-two (suc n) g j k hj hk d = go (ℕ_discrete j n) (ℕ_discrete k n) (λ a b. sum-two n g j k a b d)
  where
    go : Dec (j ≡ n) → Dec (k ≡ n) → (j < n → k < n → g j + g k ≤ sum_to n g) → g j + g k ≤ sum_to (suc n) g
    go (yes e) q rest = omega (arith, sum-suc n g, ap g e, sum_one n g k (omega arith))
    go (no e) (yes q) rest = omega (arith, sum-suc n g, ap g q, sum_one n g j (omega arith))
    go (no e) (no q) rest = omega (arith, sum-suc n g, rest (omega arith) (omega arith))

-- ---- The rows of a list

sum_rows : (g : ℕ → ℕ) (l : List ℕ) → ((j : ℕ) → 1 ≤ occurs j l → j < 1024) → sum_on g l ≡ sum_to 1024 (λ k. occurs k l * g k)
unfolding occurs
sum_rows g [] h = sym (sum-zero 1024 (λ k. 0 * g k) (λ k l. omega arith))
sum_rows g (x ∷ l) h =
    omega (
      arith,
      sum_ext 1024 (λ k. (same k x + occurs k l) * g k) (λ k. cond (eqb k x) (g k) 0 + occurs k l * g k) (λ k m. each k (eqb k x)),
      sum-add 1024 (λ k. cond (eqb k x) (g k) 0) (λ k. occurs k l * g k),
      sum-only 1024 x g (h x (omega (arith, same_refl x x refl))),
      sum_rows g l (λ j m. h j (omega arith)),
    )
  where
    each : (k : ℕ) (t : Bool) → (cond t 1 0 + occurs k l) * g k ≡ cond t (g k) 0 + occurs k l * g k
    each k true = omega arith
    each k false = omega arith

module _ (w : List ℕ) (L : ℕ → List ℕ) (holds : Holds w L) where
  abbrev pub place_field : ℕ → ℕ
  place_field k = load w (place k)

  sum-list : (p : ℕ) (g : ℕ → ℕ) → p < list_count → sum_on g (L p) ≡ sum_to 1024 (λ k. cond (eqb (place_field k) p) (g k) 0)
  sum-list p g h =
      sum_rows g (L p) (holds.listed p h).row
      ∙ sum_ext 1024 (λ k. occurs k (L p) * g k) (λ k. cond (eqb (place_field k) p) (g k) 0)
      (λ k l. ap (λ n. n * g k) ((holds.listed p h).once k l) ∙ one (eqb (place_field k) p) (g k))
    where
      one : (t : Bool) (x : ℕ) → cond t 1 0 * x ≡ cond t x 0
      one true x = omega arith
      one false x = omega arith

  -- of the first n lists, each with a weight of its own
  pub sum-lists : (n : ℕ) (g : ℕ → ℕ → ℕ) → n ≤ list_count →
      sum_to 1024 (λ k. cond (ltb (place_field k) n) (g (place_field k) k) 0) ≡ sum_to n (λ p. sum_on (g p) (L p))
  sum-lists zero g h =
      sum-zero 1024 (λ k. cond (ltb (place_field k) 0) (g (place_field k) k) 0)
      (λ k l. ap (λ t. cond t (g (place_field k) k) 0) (le-ltb (place_field k) 0 (omega arith)))
      ∙ sym (none (λ p. sum_on (g p) (L p)))
    where
      none : (f : ℕ → ℕ) → sum_to 0 f ≡ 0
      none f = sum-zero 0 f (λ k l. absurd (omega arith))
  sum-lists (suc n) g h =
      omega (
        arith,
        sum_ext 1024 (λ k. cond (ltb (place_field k) (suc n)) (g (place_field k) k) 0)
            (λ k. cond (ltb (place_field k) n) (g (place_field k) k) 0 + cond (eqb (place_field k) n) (g n k) 0)
            (λ k l. each k (place_field k) (ltb (place_field k) (suc n)) (ltb (place_field k) n) (eqb (place_field k) n) refl refl refl),
        sum-add 1024 (λ k. cond (ltb (place_field k) n) (g (place_field k) k) 0) (λ k. cond (eqb (place_field k) n) (g n k) 0),
        sum-lists n g (omega arith),
        sum-list n (g n) (omega arith),
        sum-suc n (λ p. sum_on (g p) (L p)),
      )
    where
      each : (k p : ℕ) (a b c : Bool) → ltb p (suc n) ≡ a → ltb p n ≡ b → eqb p n ≡ c
          → cond a (g p k) 0 ≡ cond b (g p k) 0 + cond c (g n k) 0
      each k p true true true x y z = absurd (omega (arith, ltb-true p n y, eqb-true p n z))
      each k p true true false x y z = omega arith
      each k p true false true x y z = omega (arith, ap (λ q. g q k) (eqb-true p n z))
      each k p true false false x y z = absurd (eqb-false p n z (omega (arith, ltb-true p (suc n) x, ltb-false p n y)))
      each k p false true c x y z = absurd (omega (arith, ltb-false p (suc n) x, ltb-true p n y))
      each k p false false true x y z = absurd (omega (arith, ltb-false p (suc n) x, eqb-true p n z))
      each k p false false false x y z = refl
