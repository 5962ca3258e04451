-- Numbers that stand in a list from a position on (`At`): the first of them, the rest, and one run behind another.
use Rattle.machine.specs.All.{clash, ℕ, suc, ◌+◌, ◌<◌, add-zero, add-one, arith, List, [], ◌∷◌, ◌++◌, ◌≡◌, refl, sym, ap, ◌∙◌, length, get_or, take, drop_of_length-le, drop-cons, ltb-true, ltb-false, Bool, true, false, ltb, drop}
use Rattle.layout.specs.All.{At}

-- the first, and the rest behind it
pub record First (l : List ℕ) (at x : ℕ) (rest : List ℕ) : Type 0 where
  pub inside : at < length l
  pub found : x ≡ get_or l at 0
  pub after : At l (at + 1) rest

module _ (l : List ℕ) (at : ℕ) where
  -- numbers that stand in the tables: the first of them, and the others behind it,
  pub at_first : (x : ℕ) (rest : List ℕ) → At l at (x ∷ rest) → First l at x rest
  at_first x rest h = go (ltb at (length l)) refl
    where
      go : (t : Bool) → ltb at (length l) ≡ t → First l at x rest
      go true e =
          let inl : at < length l = ltb-true at (length l) e in
          let split : get_or l at 0 ∷ take (length rest) (drop (suc at) l) ≡ x ∷ rest =
          sym (ap (take (suc (length rest))) (drop-cons l at 0 inl)) ∙ h in
          record {
            inside = inl;
            found = cc;
            after = let tail : take (length rest) (drop (suc at) l) ≡ rest = cc in rw (add-one at) tail;
          }
      go false e =
          let none : drop at l ≡ [] = drop_of_length-le l (ltb-false at (length l) e) in
          let bad : [] ≡ x ∷ rest = sym (ap (take (suc (length rest))) none) ∙ h in
          clash (cc)

  -- put together again,
  pub at-cons : (x : ℕ) (rest : List ℕ) → First l at x rest → At l at (x ∷ rest)
  at-cons x rest f =
      let tail : take (length rest) (drop (suc at) l) ≡ rest = rw (add-one at) at f.after in
      ap (take (suc (length rest))) (drop-cons l at 0 f.inside) ∙ rw (← f.found, tail)

-- one run behind another
pub at_front : (l : List ℕ) (at : ℕ) (xs ys : List ℕ) → At l at (xs ++ ys) → At l at xs
at_front l at [] ys h = refl
at_front l at (x ∷ xs) ys h =
    let f = at_first l at x (xs ++ ys) h in
    at-cons l at x xs (record { inside = f.inside; found = f.found; after = at_front l (at + 1) xs ys f.after })

-- and those behind a front part
pub at_back : (l : List ℕ) (at : ℕ) (xs ys : List ℕ) → At l at (xs ++ ys) → At l (at + length xs) ys
at_back l at [] ys h = rw (add-zero at) h
at_back l at (x ∷ xs) ys h =
    let e : at + 1 + length xs ≡ at + suc (length xs) = omega arith in
    rw e at (at_back l (at + 1) xs ys (at_first l at x (xs ++ ys) h).after)
