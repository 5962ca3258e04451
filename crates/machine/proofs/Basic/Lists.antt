-- Lists and sums over numbers, by recursion along the list or the number.
use Rattle.machine.specs.All.{ℕ, zero, suc, ◌+◌, ◌≤◌, ◌≡◌, refl, ap, Bool, false, List, [], ◌∷◌, arith, leb, leb-true, leb-false, cases, get_or, replicate, any_of, those, Each, up_to}
use Rattle.machine.proofs.Basic.Bools.{or_false}

-- where none of a list passes a test, neither does the one at an index, or the default
pub none-at : {A : Type 0} (p : A → Bool) (d : A) → p d ≡ false → (l : List A) (i : ℕ) → any_of p l ≡ false → p (get_or l i d) ≡ false
unfolding any_of
none-at p d else [] i h = else
none-at p d else (b ∷ l) zero h = (or_false (p b) (any_of p l) h).0
none-at p d else (b ∷ l) (suc i) h = none-at p d else l i (or_false (p b) (any_of p l) h).1

-- where nobody passes, nobody is selected
pub those-none : {A : Type 0} (p : A → Bool) (l : List A) → Each (λ x. p x ≡ false) l → those p l ≡ []
unfolding those
those-none p [] h = refl
those-none p (x ∷ l) h = rw h.0 (those-none p l h.1)

-- a list of equal members, read anywhere, the default being that member too
pub same_at : {A : Type 0} (n i : ℕ) (a : A) → get_or (replicate n a) i a ≡ a
same_at zero i a = refl
same_at (suc n) zero a = refl
same_at (suc n) (suc i) a = same_at n i a

-- one summand is at most the sum
pub up_to-at : (n : ℕ) (f : ℕ → ℕ) (i : ℕ) → 1 ≤ i → i ≤ n → f i ≤ up_to n f
unfolding up_to
up_to-at zero f i low high = absurd (omega arith)
up_to-at (suc n) f i low high =
    cases (leb i n)
    (λ e. omega (arith, up_to-at n f i low (leb-true i n e)))
    (λ e. let last : i ≡ suc n = omega (arith, leb-false i n e) in omega (arith, ap f last))
