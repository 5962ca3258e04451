-- How many rows are on no list.
use Rattle.machine.specs.All.{ℕ, suc, ◌+◌, ◌≤◌, ◌<◌, ◌≡◌, ap, ◌≢◌, cond, List, arith, lt-ltb, le-ltb, ltb}
use Rattle.rows_laws.specs.All.{place, nowhere, list_count, load, loose}
use Rattle.rows_laws.proofs.Counting.Sums.{sum-at, sum_ext}

-- 1 for a row on no list
abbrev pub off : List ℕ → ℕ → ℕ
off w k = cond (ltb (load w (place k)) list_count) 0 1

pub off-placed : (w : List ℕ) (k : ℕ) → load w (place k) < list_count → off w k ≡ 0
off-placed w k h = rw (lt-ltb (load w (place k)) list_count h)

pub off-loose : (w : List ℕ) (k : ℕ) → list_count ≤ load w (place k) → off w k ≡ 1
off-loose w k h = rw (le-ltb (load w (place k)) list_count h)

module _ (w w' : List ℕ) (k : ℕ) (hk : k < 1024) (places : (j : ℕ) → j < 1024 → j ≢ k → load w' (place j) ≡ load w (place j)) where
  changed : loose w' + off w k ≡ loose w + off w' k
  unfolding loose
  changed =
      sum-at 1024 k (off w') (off w) hk (λ j hj d. ap (λ (x : ℕ). cond (ltb x list_count) 0 1) (places j hj d))

  -- a row that goes from list to list was not loose and is not
  pub loose_same : load w (place k) < list_count → load w' (place k) < list_count → loose w' ≡ loose w
  loose_same a b = omega (arith, changed, off-placed w k a, off-placed w' k b)

  -- a row that leaves a list makes one loose row more
  pub loose-more : load w (place k) < list_count → load w' (place k) ≡ nowhere → loose w' ≡ suc (loose w)
  loose-more a b = omega (arith, changed, off-placed w k a, off-loose w' k (omega arith))

  -- a row that comes onto a list makes one loose row less
  pub loose-less : load w (place k) ≡ nowhere → load w' (place k) < list_count → suc (loose w') ≡ loose w
  loose-less a b = omega (arith, changed, off-loose w k (omega arith), off-placed w' k b)

pub loose-kept : (w w' : List ℕ) → ((j : ℕ) → j < 1024 → load w' (place j) ≡ load w (place j)) → loose w' ≡ loose w
unfolding loose
loose-kept w w' places =
    sum_ext 1024 (off w') (off w) (λ j hj. ap (λ (x : ℕ). cond (ltb x list_count) 0 1) (places j hj))
