-- What a store leaves of the buffer: length, other numbers, and everything past the 16,384th.
use Rattle.machine.specs.All.{ℕ, ◌%◌, ◌≤◌, ◌<◌, ◌≡◌, refl, ap, ◌∙◌, ◌≢◌, Bool, true, false, cond, List, arith, lt-ltb, ltb-true, ltb, length, set, drop, length-set, get_or-set_same, get_or-set_other, set_comm, set-get_or, drop-set-lt, set-set}
use Rattle.rows_laws.specs.All.{standing_field, field_at, load, store, read, set_returning}

pub length-store : (w : List ℕ) (i x : ℕ) → length (store w i x) ≡ length w
unfolding store
length-store w i x = go (ltb i 16384)
  where
    go : (b : Bool) → length (cond b (set w i x) w) ≡ length w
    go true = length-set w i x
    go false = refl

pub load_same : (w : List ℕ) (i x : ℕ) → 16384 ≤ length w → i < 16384 → load (store w i x) i ≡ x
unfolding store
load_same w i x room h = rw (lt-ltb i 16384 h) (get_or-set_same w i x 0 (omega arith))

pub load-other : (w : List ℕ) (i x j : ℕ) → j ≢ i → load (store w i x) j ≡ load w j
unfolding store
load-other w i x j d = go (ltb i 16384)
  where
    go : (b : Bool) → load (cond b (set w i x) w) j ≡ load w j
    go true = get_or-set_other w i j x 0 d
    go false = refl

-- what a number holds already may be stored
pub store_kept : (w : List ℕ) (i : ℕ) → store w i (load w i) ≡ w
unfolding store
store_kept w i = go (ltb i 16384)
  where
    go : (b : Bool) → cond b (set w i (load w i)) w ≡ w
    go true = set-get_or w i 0
    go false = refl

-- two stores of different numbers, in whatever order; of one number, the later one
pub store_swap : (w : List ℕ) (i x j y : ℕ) → i ≢ j → store (store w i x) j y ≡ store (store w j y) i x
unfolding store
store_swap w i x j y d = go (ltb i 16384) (ltb j 16384)
  where
    go : (a b : Bool)
        → cond b (set (cond a (set w i x) w) j y) (cond a (set w i x) w) ≡ cond a (set (cond b (set w j y) w) i x) (cond b (set w j y) w)
    go true true = set_comm w i j x y d
    go true false = refl
    go false true = refl
    go false false = refl

pub store-again : (w : List ℕ) (i x y : ℕ) → store (store w i x) i y ≡ store w i y
unfolding store
store-again w i x y = go (ltb i 16384)
  where
    go : (b : Bool) → cond b (set (cond b (set w i x) w) i y) (cond b (set w i x) w) ≡ cond b (set w i y) w
    go true = set-set w i x y
    go false = refl

-- a mark that stands may be set
pub returning_kept : (w : List ℕ) (k mark : ℕ) → read w standing_field k % 2 ≡ mark → set_returning w k mark ≡ w
returning_kept w k mark e = ap (store w (field_at standing_field k)) (omega (arith, e)) ∙ store_kept w (field_at standing_field k)

-- the buffer may be longer than the rows need; what stands behind stays
pub past-store : (w : List ℕ) (i x : ℕ) → drop 16384 (store w i x) ≡ drop 16384 w
unfolding store
past-store w i x = go (ltb i 16384) refl
  where
    go : (b : Bool) → ltb i 16384 ≡ b → drop 16384 (cond b (set w i x) w) ≡ drop 16384 w
    go true e = drop-set-lt 16384 w i x (ltb-true i 16384 e)
    go false e = refl
