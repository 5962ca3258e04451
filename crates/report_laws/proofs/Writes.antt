-- Numbers written one after another, and one more turn of each loop, as the functions' proofs need them.
use Rattle.machine.specs.All.{ℕ, suc, ◌+◌, ◌-◌, min, ◌≤◌, ◌<◌, ◌≡◌, refl, sym, ap, ◌∙◌, eqb, List, [], ◌∷◌, ◌++◌, add-one, arith, le-leb, lt-leb, get_or, set, Bool, true, false, cond}
use Rattle.rows_laws.specs.All.{sum_to}
use Rattle.report_laws.specs.{Written, put, put_all, share, total, rows_to, place_of, lives, sift, rank_one, rank_to}

-- ---- Lists of numbers

pub put_all-cons : (v : ℕ) (l : List ℕ) (w : Written) → put_all (v ∷ l) w ≡ put_all l (put v w)
unfolding put_all
put_all-cons v l w = refl

pub put_all-append : (a b : List ℕ) (w : Written) → put_all (a ++ b) w ≡ put_all b (put_all a w)
unfolding put_all
put_all-append [] b w = refl
put_all-append (v ∷ a) b w = put_all-append a b (put v w)

-- four parts, one after the other
pub put_all-parts : (a b c d : List ℕ) (w : Written) → put_all (a ++ (b ++ (c ++ d))) w ≡ put_all d (put_all c (put_all b (put_all a w)))
put_all-parts a b c d w =
    put_all-append a (b ++ (c ++ d)) w
    ∙ put_all-append b (c ++ d) (put_all a w)
    ∙ put_all-append c d (put_all b (put_all a w))

-- ---- Counts

pub total-none : (tables tally : List ℕ) (first second third index base : ℕ) → 0 ≡ total tables tally first second third index base 0
unfolding total
total-none tables tally first second third index base = refl

-- one more block, and no sum passes 64 bits
pub total-next : (tables tally : List ℕ) (first second third index base n : ℕ) →
    total tables tally first second third index base (n + 1)
    ≡ min (total tables tally first second third index base n + share tables tally first second third index base n) 18446744073709551615
unfolding total
total-next tables tally first second third index base n = rw add-one

pub sum-none : (f : ℕ → ℕ) → 0 ≡ sum_to 0 f
unfolding sum_to
sum-none f = refl

pub sum-next : (n : ℕ) (f : ℕ → ℕ) → sum_to (n + 1) f ≡ sum_to n f + f n
unfolding sum_to
sum-next n f = rw add-one

pub rows_none : (f : ℕ → List ℕ) (w : Written) → w ≡ put_all (rows_to 0 f) w
unfolding rows_to put_all
rows_none f w = refl

pub rows_next : (n : ℕ) (f : ℕ → List ℕ) (w : Written) → put_all (rows_to (n + 1) f) w ≡ put_all (f n) (put_all (rows_to n f) w)
unfolding rows_to
rows_next n f w = rw add-one (put_all-append (rows_to n f) (f n) w)

-- ---- The living

module _ (w : List ℕ) (moving : ℕ) where
  pub lives-most : (k : ℕ) → lives w moving k ≤ 1
  unfolding lives
  lives-most k = go (eqb (place_of w moving k) 0)
    where
      go : (t : Bool) → cond t 0 1 ≤ 1
      go true = omega arith
      go false = omega arith

  pub rank-none : (l : List ℕ) → l ≡ rank_to w moving 0 l
  unfolding rank_to
  rank-none l = refl

  -- one more row is ranked if it lives
  pub rank-next : (n : ℕ) (l : List ℕ) → rank_to w moving (n + 1) l ≡ rank_one w moving (sum_to n (lives w moving)) n (rank_to w moving n l)
  unfolding rank_to
  rank-next n l = rw add-one

module _ (x i : ℕ) (l : List ℕ) where
  pub sift-first : i ≤ 0 → set l 0 x ≡ sift i x l
  sift-first h = let e : i ≡ 0 = omega arith in rw e (unfold sift in refl)

  module _ (pos : 0 < i) where
    one_more : i ≡ suc (i - 1)
    one_more = omega arith

    pub sift-here : get_or l (i - 1) 0 ≤ x → set l i x ≡ sift i x l
    sift-here h = ap (λ n. set l n x) one_more ∙ here ∙ ap (λ n. sift n x l) (sym one_more)
      where
        here : set l (suc (i - 1)) x ≡ sift (suc (i - 1)) x l
        here = unfold sift in (rw (le-leb _ _ h))

    -- the next row of the ranking moves up by one place
    pub sift-next : x < get_or l (i - 1) 0 → sift (i - 1) x (set l i (get_or l (i - 1) 0)) ≡ sift i x l
    sift-next h = ap (λ n. sift (i - 1) x (set l n (get_or l (i - 1) 0))) one_more ∙ next ∙ ap (λ n. sift n x l) (sym one_more)
      where
        next : sift (i - 1) x (set l (suc (i - 1)) (get_or l (i - 1) 0)) ≡ sift (suc (i - 1)) x l
        next = unfold sift in (rw (lt-leb _ _ h))
