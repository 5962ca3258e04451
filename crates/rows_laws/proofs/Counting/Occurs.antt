-- How often a row occurs in a list. A list of rows, each at most once, is no longer than the rows are many.
use Rattle.machine.specs.All.{ℕ, ◌+◌, ◌≤◌, ◌≡◌, refl, ◌≢◌, List, [], ◌∷◌, ◌++◌, arith, ℕ_discrete, eq-eqb, ne_eqb}
use Rattle.rows_laws.specs.All.{same, occurs}

pub same_refl : (a b : ℕ) → a ≡ b → same a b ≡ 1
same_refl a b e = rw (eq-eqb a b e)

pub same-other : (a b : ℕ) → a ≢ b → same a b ≡ 0
same-other a b d = rw (ne_eqb a b d)

pub same-le : (a b : ℕ) → same a b ≤ 1
same-le a b = go (ℕ_discrete a b)
  where
    go : Dec (a ≡ b) → same a b ≤ 1
    go (yes e) = omega (arith, same_refl a b e)
    go (no d) = omega (arith, same-other a b d)

pub same_pos : (a b : ℕ) → 1 ≤ same a b → a ≡ b
same_pos a b h = go (ℕ_discrete a b)
  where
    go : Dec (a ≡ b) → a ≡ b
    go (yes e) = e
    go (no d) = absurd (omega (arith, same-other a b d))

pub occurs-append : (k : ℕ) (a b : List ℕ) → occurs k (a ++ b) ≡ occurs k a + occurs k b
unfolding occurs
occurs-append k [] b = omega arith
occurs-append k (x ∷ a) b = omega (arith, occurs-append k a b)

-- `same` is 1 where the two rows are one
pub occurs-cons : (k x : ℕ) (l : List ℕ) → occurs k (x ∷ l) ≡ same k x + occurs k l
unfolding occurs
occurs-cons k x l = refl
