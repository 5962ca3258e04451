-- Two tables of which the rows that some indices name are related: what a change of one row on both sides keeps, and what a change of a row
-- that no index names keeps.
use Rattle.machine.specs.All.{ℕ, zero, suc, ◌<◌, ◌≡◌, refl, Bool, true, false, List, [], ◌∷◌, arith, eqb, length, get_or, set, length-set, eqb-true, eqb-false, ap, subst}

pub set_here : {A : Type 0} (l : List A) (i : ℕ) (a d : A) → i < length l → get_or (set l i a) i d ≡ a
set_here [] i a d h = absurd (omega arith)
set_here (x ∷ l) zero a d h = refl
set_here (x ∷ l) (suc i) a d h = set_here l i a d (omega arith)

pub set_there : {A : Type 0} (l : List A) (i j : ℕ) (a d : A) → (j ≡ i → ⊥) → get_or (set l i a) j d ≡ get_or l j d
set_there [] i j a d n = refl
set_there (x ∷ l) zero zero a d n = absurd (n refl)
set_there (x ∷ l) zero (suc j) a d n = refl
set_there (x ∷ l) (suc i) zero a d n = refl
set_there (x ∷ l) (suc i) (suc j) a d n = set_there l i j a d (λ e. n (ap suc e))

module _ {I : Type 0} (In : I → Type 0) (there here : I → ℕ) where
  -- rows are the same on the one side exactly if they are on the other
  pub record Matched : Type 0 where
    -- each row that is named has one image, and no two share it
    pub forth : (i k : I) → In i → In k → there i ≡ there k → here i ≡ here k
    pub back : (i k : I) → In i → In k → here i ≡ here k → there i ≡ there k

  module _ {A B : Type 0} where
    pub record Rows (R : A → B → Type 0) (d : A) (d' : B) (l : List A) (l' : List B) : Type 0 where
      pub exists : (i : I) → In i → (there i < length l) × (here i < length l')
      -- row by row, the two tables are related
      pub alike : (i : I) → In i → R (get_or l (there i) d) (get_or l' (here i) d')

    module _ (R : A → B → Type 0) (d : A) (d' : B) (l : List A) (l' : List B) (h : Rows R d d' l l') where
      -- a row of both
      pub rows-set : Matched → (i : I) → In i → (x : A) (y : B) → R x y → Rows R d d' (set l (there i) x) (set l' (here i) y)
      rows-set M i p x y r =
          record {
            exists = λ k q. (
              rw (length-set l (there i) x) (h.exists k q).0,
              rw (length-set l' (here i) y) (h.exists k q).1,
            );
            alike = λ k q. go k q (eqb (there k) (there i)) refl;
          }
        where
          go : (k : I) → In k → (b : Bool) → eqb (there k) (there i) ≡ b
              → R (get_or (set l (there i) x) (there k) d) (get_or (set l' (here i) y) (here k) d')
          go k q true e =
              let t : there k ≡ there i = eqb-true _ _ e in
              let u : here k ≡ here i = M.forth k i q p t in
              rw (t, u, set_here l (there i) x d (h.exists i p).0, set_here l' (here i) y d' (h.exists i p).1) r
          go k q false e =
              let n : (there k ≡ there i → ⊥) = eqb-false _ _ e in
              rw (set_there l (there i) (there k) x d n, set_there l' (here i) (here k) y d' (λ u. n (M.back k i q p u))) (h.alike k q)

      -- by an index that is known otherwise
      pub rows-put : Matched → (i : I) → In i → (j j' : ℕ) → there i ≡ j → here i ≡ j' → (x : A) (y : B) → R x y
          → Rows R d d' (set l j x) (set l' j' y)
      rows-put M i p j j' e e' x y r =
          subst (λ (k : ℕ). Rows R d d' (set l j x) (set l' k y)) e' (rw e at (rows-set M i p x y r))

      -- the same, where the row's place is known by another expression
      pub rows_at : (i : I) → In i → (j j' : ℕ) → there i ≡ j → here i ≡ j' → R (get_or l j d) (get_or l' j' d')
      rows_at i p j j' e e' = subst (λ (k : ℕ). R (get_or l j d) (get_or l' k d')) e' (rw e at (h.alike i p))

      -- a row that nobody names
      pub rows_other : (j : ℕ) → ((i : I) → In i → there i ≡ j → ⊥) → (x : A) → Rows R d d' (set l j x) l'
      rows_other j n x =
          record {
            exists = λ k q. (rw (length-set l j x) (h.exists k q).0, (h.exists k q).1);
            alike = λ k q. rw (set_there l j (there k) x d (n k q)) (h.alike k q);
          }

    -- related in another way too
    pub rows-map : (R S : A → B → Type 0) (d : A) (d' : B) (l : List A) (l' : List B) → ((x : A) (y : B) → R x y → S x y)
        → Rows R d d' l l' → Rows S d d' l l'
    rows-map R S d d' l l' f h = record { exists = h.exists; alike = λ i p. f _ _ (h.alike i p) }
