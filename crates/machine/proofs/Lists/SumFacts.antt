-- More of sums over lists: a part of one list of several taken out, and what a sum above 0 tells.
use Rattle.machine.specs.All.{ℕ, zero, suc, ◌+◌, ◌≤◌, ◌<◌, ◌≡◌, refl, inl, inr, List, [], ◌∷◌, arith, ltb, length, get_or, set, ltb-true, ltb-false, flat, Bool, true, false}
use Rattle.machine.proofs.{Lists.Sorted.Some, Lists.Sums.sum_on, Lists.Sums.sum-append}

module _ {A : Type 0} (f : A → ℕ) where
  -- a place that is not there holds nothing
  pub sum-part : (ls : List (List A)) (i : ℕ) (g : List A → List A) → sum_on f (g []) ≡ 0
      → sum_on f (flat (set ls i (g (get_or ls i [])))) + sum_on f (get_or ls i []) ≡ sum_on f (g (get_or ls i [])) + sum_on f (flat ls)
  unfolding flat
  sum-part [] i g z = omega arith
  sum-part (k ∷ ls) zero g z = omega (arith, sum-append f (g k) (flat ls), sum-append f k (flat ls))
  sum-part (k ∷ ls) (suc i) g z =
      omega (arith, sum-part ls i g z, sum-append f k (flat ls), sum-append f k (flat (set ls i (g (get_or ls i [])))))

  -- ---- What a sum tells

  pub sum-some : (l : List A) → 0 < sum_on f l → Some (λ x. 0 < f x) l
  sum-some [] h = absurd (omega arith)
  sum-some (x ∷ l) h = go (ltb 0 (f x)) refl (sum-some l)
    where
      go : (b : Bool) → ltb 0 (f x) ≡ b → (0 < sum_on f l → Some (λ y. 0 < f y) l) → Some (λ y. 0 < f y) (x ∷ l)
      go true e later = inl (ltb-true _ _ e)
      go false e later = let z : f x ≤ 0 = ltb-false _ _ e in inr (later (omega arith))

  -- which of several lists
  pub sum_which : (ls : List (List A)) → 0 < sum_on f (flat ls) → (i : ℕ) × (i < length ls) × (0 < sum_on f (get_or ls i []))
  unfolding flat
  sum_which [] h = absurd (omega arith)
  sum_which (k ∷ ls) h = go (ltb 0 (sum_on f k)) refl (sum_which ls)
    where
      go : (b : Bool) → ltb 0 (sum_on f k) ≡ b → (0 < sum_on f (flat ls) → (i : ℕ) × (i < length ls) × (0 < sum_on f (get_or ls i [])))
          → (i : ℕ) × (i < suc (length ls)) × (0 < sum_on f (get_or (k ∷ ls) i []))
      go true e later = (0, omega arith, ltb-true _ _ e)
      go false e later =
          let z : sum_on f k ≤ 0 = ltb-false _ _ e in
          let r = later (omega (arith, sum-append f k (flat ls))) in
          (suc r.0, omega (arith, r.1), r.2)

-- two weights that agree where a third is 0, on a list that has none of that
pub sum_agree : {A : Type 0} (h f g : A → ℕ) → ((x : A) → h x ≡ 0 → f x ≡ g x) → (l : List A) → sum_on h l ≡ 0 → sum_on f l ≡ sum_on g l
sum_agree h f g same [] z = refl
sum_agree h f g same (x ∷ l) z = omega (arith, same x (omega arith), sum_agree h f g same l (omega arith))
