-- The living rows by rising number: keys that come into their place one after another rise, and weigh as the living rows do.
use Rattle.machine.specs.All.{ℕ, zero, suc, ◌+◌, ◌*◌, ◌%◌, ◌≤◌, ◌<◌, ℕ_discrete, arith, ◌≡◌, refl, sym, ap, ap₂, ◌∙◌, subst, ◌≢◌, Bool, true, false, cond, List, [], ◌∷◌, ◌++◌, leb-true, leb-false, leb, eqb, length, get_or, set, length-set, get_or-set_same, get_or-set_other, Place, place_numbers, Each}
use Rattle.machine.proofs.{Lists.Sums.sum_on, Lists.Sums.sum-append, Lists.Sorting.Rising}
use Rattle.rows_laws.specs.All.{number_field, read, sum_to}
use Rattle.rows_laws.proofs.Counting.Sums.{sum-suc, sum_ext, sum-zero}
use Rattle.report_laws.specs.{rows_to, place_of, place_at_lem, lives, key_of, sift, rank_one, rank_to}

-- ---- One key more

pub sift-length : (x n : ℕ) (l : List ℕ) → length (sift n x l) ≡ length l
unfolding sift
sift-length x zero l = length-set l 0 x
sift-length x (suc i) l = go (leb (get_or l i 0) x) (sift-length x i (set l (suc i) (get_or l i 0)))
  where
    go : (t : Bool) → length (sift i x (set l (suc i) (get_or l i 0))) ≡ length (set l (suc i) (get_or l i 0)) →
        length (cond t (set l (suc i) x) (sift i x (set l (suc i) (get_or l i 0)))) ≡ length l
    go true ih = length-set l (suc i) x
    go false ih = ih ∙ length-set l (suc i) (get_or l i 0)

-- what stands behind stays
sift-behind : (x n : ℕ) (l : List ℕ) (j : ℕ) → n < j → get_or (sift n x l) j 0 ≡ get_or l j 0
unfolding sift
sift-behind x zero l j h = get_or-set_other l 0 j x 0 (λ e. omega arith)
sift-behind x (suc i) l j h = go (leb (get_or l i 0) x) (sift-behind x i (set l (suc i) (get_or l i 0)) j (omega arith))
  where
    go : (t : Bool) → get_or (sift i x (set l (suc i) (get_or l i 0))) j 0 ≡ get_or (set l (suc i) (get_or l i 0)) j 0 →
        get_or (cond t (set l (suc i) x) (sift i x (set l (suc i) (get_or l i 0)))) j 0 ≡ get_or l j 0
    go true ih = get_or-set_other l (suc i) j x 0 (λ e. omega arith)
    go false ih = ih ∙ get_or-set_other l (suc i) j (get_or l i 0) 0 (λ e. omega arith)

sift-sum : (f : ℕ → ℕ) (x n : ℕ) (l : List ℕ) → n < length l →
    sum_to (suc n) (λ i. f (get_or (sift n x l) i 0)) ≡ sum_to n (λ i. f (get_or l i 0)) + f x
unfolding sift
sift-sum f x zero l h =
    omega (
      arith,
      sum-suc 0 (λ i. f (get_or (set l 0 x) i 0)),
      sum-zero 0 (λ i. f (get_or (set l 0 x) i 0)) (λ k b. absurd (omega arith)),
      sum-zero 0 (λ i. f (get_or l i 0)) (λ k b. absurd (omega arith)),
      ap f (get_or-set_same l 0 x 0 h),
    )
sift-sum f x (suc i) l h =
    go (leb (get_or l i 0) x) (sift-sum f x i (set l (suc i) (get_or l i 0)) (omega (arith, length-set l (suc i) (get_or l i 0))))
  where
    m : List ℕ
    m = set l (suc i) (get_or l i 0)

    go : (t : Bool) → sum_to (suc i) (λ k. f (get_or (sift i x m) k 0)) ≡ sum_to i (λ k. f (get_or m k 0)) + f x →
        sum_to (suc (suc i)) (λ k. f (get_or (cond t (set l (suc i) x) (sift i x m)) k 0)) ≡ sum_to (suc i) (λ k. f (get_or l k 0)) + f x
    go true ih =
        omega (
          arith,
          sum-suc (suc i) (λ k. f (get_or (set l (suc i) x) k 0)),
          sum_ext (suc i) (λ k. f (get_or (set l (suc i) x) k 0)) (λ k. f (get_or l k 0))
              (λ k b. ap f (get_or-set_other l (suc i) k x 0 (λ e. omega arith))),
          ap f (get_or-set_same l (suc i) x 0 h),
        )
    go false ih =
        omega (
          arith,
          ih,
          sum-suc (suc i) (λ k. f (get_or (sift i x m) k 0)),
          ap f (sift-behind x i m (suc i) (omega arith)),
          ap f (get_or-set_same l (suc i) (get_or l i 0) 0 h),
          sum_ext i (λ k. f (get_or m k 0)) (λ k. f (get_or l k 0))
              (λ k b. ap f (get_or-set_other l (suc i) k (get_or l i 0) 0 (λ e. omega arith))),
          sum-suc i (λ k. f (get_or l k 0)),
        )

sift-each : (P : ℕ → Type 0) (x n : ℕ) (l : List ℕ) → n < length l → P x → ((i : ℕ) → i < n → P (get_or l i 0)) →
    (i : ℕ) → i < suc n → P (get_or (sift n x l) i 0)
unfolding sift
sift-each P x zero l h own all i b =
    let z : i ≡ 0 = omega arith in
    subst P (sym (ap (λ j. get_or (set l 0 x) j 0) z ∙ get_or-set_same l 0 x 0 h)) own
sift-each P x (suc i) l h own all j b =
    go (leb (get_or l i 0) x) (ℕ_discrete j (suc i))
    (sift-each P x i (set l (suc i) (get_or l i 0)) (omega (arith, length-set l (suc i) (get_or l i 0))) own
    (λ k c. subst P (sym (get_or-set_other l (suc i) k (get_or l i 0) 0 (λ e. omega arith))) (all k (omega arith))) j)
  where
    m : List ℕ
    m = set l (suc i) (get_or l i 0)

    go : (t : Bool) → Dec (j ≡ suc i) → (j < suc i → P (get_or (sift i x m) j 0)) → P (get_or (cond t (set l (suc i) x) (sift i x m)) j 0)
    go true (yes e) rest = subst P (sym (ap (λ k. get_or (set l (suc i) x) k 0) e ∙ get_or-set_same l (suc i) x 0 h)) own
    go true (no d) rest = subst P (sym (get_or-set_other l (suc i) j x 0 d)) (all j (omega arith))
    go false (yes e) rest =
        subst P (sym (ap (λ k. get_or (sift i x m) k 0) e ∙ sift-behind x i m (suc i) (omega arith)
        ∙ get_or-set_same l (suc i) (get_or l i 0) 0 h))
        (all i (omega arith))
    go false (no d) rest = rest (omega arith)

-- each of the first n is above those before it
abbrev pub Sorted : ℕ → List ℕ → Type 0
Sorted n l = (i j : ℕ) → i < j → j < n → get_or l i 0 < get_or l j 0

sift-sorted : (x n : ℕ) (l : List ℕ) → n < length l → ((i : ℕ) → i < n → get_or l i 0 ≢ x) → Sorted n l → Sorted (suc n) (sift n x l)
unfolding sift
sift-sorted x zero l h new s a j lt b = absurd (omega arith)
sift-sorted x (suc i) l h new s a j lt b =
    go (leb (get_or l i 0) x) refl (ℕ_discrete j (suc i))
    (sift-sorted x i (set l (suc i) (get_or l i 0)) room (λ k c e. new k (omega arith) (sym (kept k c) ∙ e))
    (λ k o c d. omega (arith, kept k (omega arith), kept o d, s k o c (omega arith))) a j lt)
  where
    m : List ℕ
    m = set l (suc i) (get_or l i 0)

    room : i < length m
    room = omega (arith, length-set l (suc i) (get_or l i 0))

    kept : (k : ℕ) → k < i → get_or m k 0 ≡ get_or l k 0
    kept k c = get_or-set_other l (suc i) k (get_or l i 0) 0 (λ e. omega arith)

    below : get_or l i 0 ≤ x → Dec (a ≡ i) → a < suc i → get_or l a 0 < x
    below le (yes e) c = let d : get_or l i 0 ≢ x = new i (omega arith) in omega (arith, ap (λ k. get_or l k 0) e)
    below le (no e) c = omega (arith, s a i (omega arith) (omega arith))

    go : (t : Bool) → leb (get_or l i 0) x ≡ t → Dec (j ≡ suc i) → (j < suc i → get_or (sift i x m) a 0 < get_or (sift i x m) j 0) →
        get_or (cond t (set l (suc i) x) (sift i x m)) a 0 < get_or (cond t (set l (suc i) x) (sift i x m)) j 0
    go true e (yes q) rest =
        omega (
          arith,
          get_or-set_other l (suc i) a x 0 (λ z. omega arith),
          ap (λ k. get_or (set l (suc i) x) k 0) q,
          get_or-set_same l (suc i) x 0 h,
          below (leb-true _ _ e) (ℕ_discrete a i) (omega arith),
        )
    go true e (no d) rest =
        omega (arith, get_or-set_other l (suc i) a x 0 (λ z. omega arith), get_or-set_other l (suc i) j x 0 d, s a j lt (omega arith))
    go false e (yes q) rest =
        omega (
          arith,
          ap (λ k. get_or (sift i x m) k 0) q,
          sift-behind x i m (suc i) (omega arith),
          get_or-set_same l (suc i) (get_or l i 0) 0 h,
          sift-each (λ y. y < get_or l i 0) x i m room (leb-false _ _ e) (λ k c. omega (arith, kept k c, s k i c (omega arith))) a
              (omega arith),
        )
    go false e (no d) rest = rest (omega arith)

-- ---- Lists of places

unfoldable pub list_to : ℕ → (ℕ → Place) → List Place
list_to zero g = []
list_to (suc n) g = list_to n g ++ (g n ∷ [])

-- a list made place by place has the sums of its places,
pub list-sum : (f : Place → ℕ) (n : ℕ) (g : ℕ → Place) → sum_on f (list_to n g) ≡ sum_to n (λ i. f (g i))
unfolding list_to
list-sum f zero g = sym (sum-zero 0 (λ i. f (g i)) (λ k b. absurd (omega arith)))
list-sum f (suc n) g = omega (arith, sum-append f (list_to n g) (g n ∷ []), list-sum f n g, sum-suc n (λ i. f (g i)))

numbers-append : (a b : List Place) → place_numbers (a ++ b) ≡ place_numbers a ++ place_numbers b
unfolding place_numbers
numbers-append [] b = refl
numbers-append (p ∷ a) b = ap (λ (l : List ℕ). p.number ∷ p.place ∷ l) (numbers-append a b)

-- their numbers,
pub list-numbers : (n : ℕ) (g : ℕ → Place) → rows_to n (λ i. place_numbers (g i ∷ [])) ≡ place_numbers (list_to n g)
unfolding list_to
list-numbers zero g = unfold rows_to place_numbers in refl
list-numbers (suc n) g = go (list-numbers n g)
  where
    go : rows_to n (λ i. place_numbers (g i ∷ [])) ≡ place_numbers (list_to n g)
        → rows_to (suc n) (λ i. place_numbers (g i ∷ [])) ≡ place_numbers (list_to n g ++ (g n ∷ []))
    go ih = unfold rows_to in (ap (λ (l : List ℕ). l ++ place_numbers (g n ∷ [])) ih ∙ sym (numbers-append (list_to n g) (g n ∷ [])))

each_snoc : (P : Place → Type 0) (l : List Place) (p : Place) → Each P l → P p → Each P (l ++ (p ∷ []))
each_snoc P [] p h own = (own, tt)
each_snoc P (q ∷ l) p h own = (h.0, each_snoc P l p h.1 own)

each-list : (P : Place → Type 0) (n : ℕ) (g : ℕ → Place) → ((i : ℕ) → i < n → P (g i)) → Each P (list_to n g)
unfolding list_to
each-list P zero g h = tt
each-list P (suc n) g h = each_snoc P (list_to n g) (g n) (each-list P n g (λ i b. h i (omega arith))) (h n (omega arith))

rising_snoc : (low : ℕ) (l : List Place) (p : Place) → Rising low l → low ≤ p.number → Each (λ q. q.number < p.number) l
    → Rising low (l ++ (p ∷ []))
unfolding Rising
rising_snoc low [] p r h e = (h, tt)
rising_snoc low (q ∷ l) p r h e = (r.0, rising_snoc (suc q.number) l p r.1 (omega (arith, e.0)) e.1)

-- and rises where they do
pub list-rising : (n : ℕ) (g : ℕ → Place) → ((i j : ℕ) → i < j → j < n → (g i).number < (g j).number) → Rising 0 (list_to n g)
unfolding list_to
list-rising zero g h = unfold Rising in tt
list-rising (suc n) g h =
    rising_snoc 0 (list_to n g) (g n) (list-rising n g (λ i j a b. h i j a (omega arith))) (omega arith)
    (each-list (λ q. q.number < (g n).number) n g (λ i b. h i n b (omega arith)))

-- ---- All rows

module _ (w : List ℕ) (moving : ℕ) where
  abbrev dead : ℕ → Bool
  dead k = eqb (place_of w moving k) 0

  -- the living rows, weighed
  abbrev pub weight : (Place → ℕ) → ℕ → ℕ
  weight f k = cond (dead k) 0 (f (place_at_lem w moving k))

  abbrev pub all : (Place → ℕ) → ℕ
  all f = sum_to 1024 (weight f)

  abbrev living : ℕ → ℕ
  living n = sum_to n (lives w moving)

  lives-dead : (k : ℕ) → dead k ≡ true → lives w moving k ≡ 0
  lives-dead k e = unfold lives in (rw e)

  lives-one : (k : ℕ) → dead k ≡ false → lives w moving k ≡ 1
  lives-one k e = unfold lives in (rw e)

  key_row : (k : ℕ) → k < 1024 → key_of w k % 1024 ≡ k
  key_row k h = unfold key_of in (omega arith)

  module _ (l : List ℕ) (room : length l ≡ 1024) where
    abbrev keys : ℕ → List ℕ
    keys n = rank_to w moving n l

    data Step (n : ℕ) : Type 0 where
      passed : dead n ≡ true → living (suc n) ≡ living n → keys (suc n) ≡ keys n → Step n
      ranked : dead n ≡ false → living (suc n) ≡ suc (living n) → keys (suc n) ≡ sift (living n) (key_of w n) (keys n) → Step n

    step : (n : ℕ) → Step n
    step n = go (dead n) refl
      where
        go : (t : Bool) → dead n ≡ t → Step n
        go true e = passed e (omega (arith, sum-suc n (lives w moving), lives-dead n e)) (unfold rank_to rank_one in (rw (lives-dead n e)))
        go false e = ranked e (omega (arith, sum-suc n (lives w moving), lives-one n e)) (unfold rank_to rank_one in (rw (lives-one n e)))

    few : (n : ℕ) → living n ≤ n
    few zero = omega (arith, sum-zero 0 (lives w moving) (λ k b. absurd (omega arith)))
    few (suc n) = go (step n) (few n)
      where
        go : Step n → living n ≤ n → living (suc n) ≤ suc n
        go (passed e c k) h = omega arith
        go (ranked e c k) h = omega arith

    rank-length : (n : ℕ) → length (keys n) ≡ 1024
    rank-length zero = unfold rank_to in room
    rank-length (suc n) = go (step n) (rank-length n)
      where
        go : Step n → length (keys n) ≡ 1024 → length (keys (suc n)) ≡ 1024
        go (passed e c k) h = ap length k ∙ h
        go (ranked e c k) h = ap length k ∙ sift-length (key_of w n) (living n) (keys n) ∙ h

    -- the row of key i, as a place
    abbrev placed : ℕ → ℕ → Place
    placed n i = place_at_lem w moving (get_or (keys n) i 0 % 1024)

    rank-sum : (f : Place → ℕ) (n : ℕ) → n ≤ 1024 → sum_to (living n) (λ i. f (placed n i)) ≡ sum_to n (weight f)
    rank-sum f zero h =
        ap (λ c. sum_to c (λ i. f (placed 0 i))) (sum-zero 0 (lives w moving) (λ k b. absurd (omega arith)))
        ∙ sum-zero 0 (λ i. f (placed 0 i)) (λ k b. absurd (omega arith))
        ∙ sym (sum-zero 0 (weight f) (λ k b. absurd (omega arith)))
    rank-sum f (suc n) h = go (step n) (rank-sum f n (omega arith))
      where
        over : ℕ → List ℕ → ℕ
        over c m = sum_to c (λ i. f (place_at_lem w moving (get_or m i 0 % 1024)))

        go : Step n → over (living n) (keys n) ≡ sum_to n (weight f) → over (living (suc n)) (keys (suc n)) ≡ sum_to (suc n) (weight f)
        go (passed e c k) ih = omega (arith, ap₂ over c k, ih, sum-suc n (weight f), ap (λ t. cond t 0 (f (place_at_lem w moving n))) e)
        go (ranked e c k) ih =
            omega (
              arith,
              ap₂ over c k,
              ih,
              sift-sum (λ y. f (place_at_lem w moving (y % 1024))) (key_of w n) (living n) (keys n) (omega (arith, few n, rank-length n)),
              ap (λ r. f (place_at_lem w moving r)) (key_row n h),
              sum-suc n (weight f),
              ap (λ t. cond t 0 (f (place_at_lem w moving n))) e,
            )

    -- a key of one of the first n rows, which lives
    record Key (n y : ℕ) : Type 0 where
      row : ℕ
      below : row < n
      lives : dead row ≡ false
      is : y ≡ key_of w row

    ranks : (n : ℕ) → n ≤ 1024 → (i : ℕ) → i < living n → Key n (get_or (keys n) i 0)
    ranks zero h i b = absurd (omega (arith, sum-zero 0 (lives w moving) (λ k b. absurd (omega arith))))
    ranks (suc n) h i b = go (step n) (ranks n (omega arith))
      where
        wider : (y : ℕ) → Key n y → Key (suc n) y
        wider y k = record { row = k.row; below = omega arith; lives = k.lives; is = k.is }

        go : Step n → ((j : ℕ) → j < living n → Key n (get_or (keys n) j 0)) → Key (suc n) (get_or (keys (suc n)) i 0)
        go (passed e c k) ih = rw k (wider _ (ih i (omega arith)))
        go (ranked e c k) ih =
            rw k (sift-each (Key (suc n)) (key_of w n) (living n) (keys n) (omega (arith, few n, rank-length n))
            (record { row = n; below = omega arith; lives = e; is = refl }) (λ j d. wider _ (ih j d)) i (omega arith))

    sorted : (n : ℕ) → n ≤ 1024 → Sorted (living n) (keys n)
    sorted zero h i j a b = absurd (omega (arith, sum-zero 0 (lives w moving) (λ k b. absurd (omega arith))))
    sorted (suc n) h i j a b = go (step n) (sorted n (omega arith))
      where
        new : (o : ℕ) → o < living n → get_or (keys n) o 0 ≢ key_of w n
        new o c e =
            let k = ranks n (omega arith) o c in
            absurd (omega (arith, key_row k.row (omega (arith, k.below)), key_row n h, k.below))

        go : Step n → Sorted (living n) (keys n) → get_or (keys (suc n)) i 0 < get_or (keys (suc n)) j 0
        go (passed e c k) ih = rw k (ih i j a (omega arith))
        go (ranked e c k) ih =
            rw k (sift-sorted (key_of w n) (living n) (keys n) (omega (arith, few n, rank-length n)) new ih i j a (omega arith))

    -- ---- The places of all

    abbrev pub ranking : ℕ → Place
    ranking i = placed 1024 i

    -- the ranking holds everybody once, whatever is summed
    pub ranking-sum : (f : Place → ℕ) → sum_on f (list_to (living 1024) ranking) ≡ all f
    ranking-sum f = list-sum f (living 1024) ranking ∙ rank-sum f 1024 (omega arith)

    module _ (apart : (j k : ℕ) → j < 1024 → k < 1024 → dead j ≡ false → dead k ≡ false → read w number_field j ≡ read w number_field k
        → j ≡ k) where
      rises : (i j : ℕ) → i < j → j < living 1024 → (ranking i).number < (ranking j).number
      rises i j a b = go (ranks 1024 (omega arith) i (omega arith)) (ranks 1024 (omega arith) j b)
        where
          number : (o : ℕ) → (k : Key 1024 (get_or (keys 1024) o 0)) → (ranking o).number ≡ read w number_field k.row
          number o k = unfold place_at_lem in (ap (λ r. read w number_field r) (ap (λ y. y % 1024) k.is ∙ key_row k.row k.below))

          value : (r : ℕ) → key_of w r ≡ read w number_field r * 1024 + r
          value r = unfold key_of in refl

          go : Key 1024 (get_or (keys 1024) i 0) → Key 1024 (get_or (keys 1024) j 0) → (ranking i).number < (ranking j).number
          go p q = other (ℕ_discrete (read w number_field p.row) (read w number_field q.row))
            where
              lt : key_of w p.row < key_of w q.row
              lt = omega (arith, sorted 1024 (omega arith) i j a b, p.is, q.is)

              other : Dec (read w number_field p.row ≡ read w number_field q.row) → (ranking i).number < (ranking j).number
              other (yes e) =
                  absurd (omega (arith, lt, ap (key_of w) (apart p.row q.row p.below q.below p.lives q.lives e)))
              other (no d) = omega (arith, number i p, number j q, lt, value p.row, value q.row, p.below, q.below)

      pub ranking-rises : Rising 0 (list_to (living 1024) ranking)
      ranking-rises = list-rising (living 1024) ranking rises
