-- Sums over the numbers below n.
use Rattle.machine.specs.All.{ℕ, zero, suc, ◌+◌, ◌≤◌, ◌<◌, ◌≡◌, refl, ap, ◌≢◌, arith, ℕ_discrete}
use Rattle.rows_laws.specs.All.{same, sum_to}
use Rattle.rows_laws.proofs.Counting.Occurs.{same_refl, same-other}

pub sum-suc : (n : ℕ) (f : ℕ → ℕ) → sum_to (suc n) f ≡ sum_to n f + f n
unfolding sum_to
sum-suc n f = refl

pub sum_ext : (n : ℕ) (f g : ℕ → ℕ) → ((k : ℕ) → k < n → f k ≡ g k) → sum_to n f ≡ sum_to n g
unfolding sum_to
sum_ext zero f g h = refl
sum_ext (suc n) f g h = omega (arith, sum_ext n f g (λ k l. h k (omega arith)), h n (omega arith))

pub sum-add : (n : ℕ) (f g : ℕ → ℕ) → sum_to n (λ k. f k + g k) ≡ sum_to n f + sum_to n g
unfolding sum_to
sum-add zero f g = refl
sum-add (suc n) f g = omega (arith, sum-add n f g)

pub sum-le : (n : ℕ) (f : ℕ → ℕ) → ((k : ℕ) → k < n → f k ≤ 1) → sum_to n f ≤ n
unfolding sum_to
sum-le zero f h = omega arith
sum-le (suc n) f h = omega (arith, sum-le n f (λ k l. h k (omega arith)), h n (omega arith))

pub sum-zero : (n : ℕ) (f : ℕ → ℕ) → ((k : ℕ) → k < n → f k ≡ 0) → sum_to n f ≡ 0
unfolding sum_to
sum-zero zero f h = refl
sum-zero (suc n) f h = omega (arith, sum-zero n f (λ k l. h k (omega arith)), h n (omega arith))

pub sum_ones : (n : ℕ) → sum_to n (λ k. 1) ≡ n
unfolding sum_to
sum_ones zero = refl
sum_ones (suc n) = omega (arith, sum_ones n)

-- one number is met once
pub sum_same : (n x : ℕ) → x < n → sum_to n (λ k. same k x) ≡ 1
unfolding sum_to
sum_same zero x h = absurd (omega arith)
sum_same (suc n) x h = go (ℕ_discrete n x) (sum_same n x)
  where
    go : Dec (n ≡ x) → (x < n → sum_to n (λ k. same k x) ≡ 1) → sum_to n (λ k. same k x) + same n x ≡ 1
    go (yes e) rest =
        omega (arith, same_refl n x e, sum-zero n (λ k. same k x) (λ k l. same-other k x (λ f. omega arith)))
    go (no d) rest = let l : x < n = omega arith in omega (arith, rest l, same-other n x d)

-- two sums that differ at one number only
pub sum-at : (n x : ℕ) (f g : ℕ → ℕ) → x < n → ((k : ℕ) → k < n → k ≢ x → f k ≡ g k) → sum_to n f + g x ≡ sum_to n g + f x
unfolding sum_to
sum-at zero x f g h e = absurd (omega arith)
sum-at (suc n) x f g h e = go (ℕ_discrete n x) (λ l. sum-at n x f g l (λ k m d. e k (omega arith) d))
  where
    go : Dec (n ≡ x) → (x < n → sum_to n f + g x ≡ sum_to n g + f x) → sum_to n f + f n + g x ≡ sum_to n g + g n + f x
    go (yes q) rest =
        omega (arith, ap f q, ap g q, sum_ext n f g (λ k m. e k (omega arith) (λ r. omega arith)))
    go (no d) rest = let l : x < n = omega arith in omega (arith, rest l, e n (omega arith) d)
