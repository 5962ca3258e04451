-- Every row is on one list or on none: a row is free exactly if fewer than 1,024 transactions live.
use Rattle.machine.specs.All.{ℕ, zero, suc, ◌+◌, ◌≤◌, ◌<◌, ◌≡◌, refl, sym, ap, ◌∙◌, Bool, true, false, cond, List, arith, ℕ_discrete, lt-ltb, le-ltb, ltb-true, ltb-false, ltb, length, length-map, Transaction, Event}
use Rattle.rows_laws.specs.All.{place, fel, free, list_count, load, first, sum_to, loose, on_lists, same, occurs, Holds, Shown}
use Rattle.rows_laws.proofs as our
use our.{Counting.Occurs.same_refl, Counting.Occurs.same-other, Placing.Spot.listed-length, Life.LooseRowsStay.Steady}
use our.Counting.Sums.{sum-suc, sum_ext, sum-add, sum-zero, sum_ones}
use our.Chains.TakeFirst.{First, none, some, first_of}
use Rattle.rows_laws.specs.Holds.{transaction_at, event_at}

-- 1 for a place among the first m lists
abbrev below : ℕ → ℕ → ℕ
below m x = cond (ltb x m) 1 0

below_suc : (m x : ℕ) → below (suc m) x ≡ below m x + same x m
below_suc m x = go (ltb x m) refl (ℕ_discrete x m)
  where
    go : (t : Bool) → ltb x m ≡ t → Dec (x ≡ m) → below (suc m) x ≡ cond t 1 0 + same x m
    go true e d =
        let h : x < m = ltb-true x m e in
        rw (lt-ltb x (suc m) (omega arith)) (omega (arith, same-other x m (λ q. omega arith)))
    go false e (yes q) = rw (lt-ltb x (suc m) (omega arith)) (omega (arith, same_refl x m q))
    go false e (no d) =
        let h : m ≤ x = ltb-false x m e in
        rw (le-ltb x (suc m) (omega (arith, h))) (omega (arith, same-other x m d))

module _ (w : List ℕ) (L : ℕ → List ℕ) (h : Holds w L) where
  -- as many rows have place m as list m has members
  pub on_list : (m : ℕ) → m < list_count → sum_to 1024 (λ k. same (load w (place k)) m) ≡ length (L m)
  on_list m hm =
      sym (sum_ext 1024 (λ k. occurs k (L m)) (λ k. same (load w (place k)) m) (h.listed m hm).once)
      ∙ listed-length w m (L m) (h.listed m hm)

  counted : (m : ℕ) → m ≤ list_count → sum_to m (λ p. length (L p)) ≡ sum_to 1024 (λ k. below m (load w (place k)))
  counted zero hm =
      sum-none (λ p. length (L p))
      ∙ sym (sum-zero 1024 (λ k. below 0 (load w (place k))) (λ k q. rw (le-ltb (load w (place k)) 0 (omega arith))))
    where
      sum-none : (f : ℕ → ℕ) → sum_to 0 f ≡ 0
      sum-none f = sum-zero 0 f (λ k q. absurd (omega arith))
  counted (suc m) hm =
      sum-suc m (λ p. length (L p))
      ∙ omega (
        arith,
        counted m (omega arith),
        on_list m (omega arith),
        sum-add 1024 (λ k. below m (load w (place k))) (λ k. same (load w (place k)) m),
        sum_ext 1024 (λ k. below (suc m) (load w (place k))) (λ k. below m (load w (place k)) + same (load w (place k)) m)
            (λ k q. below_suc m (load w (place k))),
      )

  pub all-rows : sum_to list_count (λ p. length (L p)) + loose w ≡ 1024
  unfolding loose
  all-rows =
      omega (
        arith,
        counted list_count (omega arith),
        sum-add 1024 (λ k. below list_count (load w (place k))) (λ k. cond (ltb (load w (place k)) list_count) 0 1),
        sum_ext 1024 (λ k. below list_count (load w (place k)) + cond (ltb (load w (place k)) list_count) 0 1) (λ k. 1)
            (λ k q. one (ltb (load w (place k)) list_count)),
        sum_ones 1024,
      )
    where
      one : (t : Bool) → cond t 1 0 + cond t 0 1 ≡ 1
      one true = refl
      one false = refl

-- what leaves the free rows leaves them as many
pub free-kept : (w w' : List ℕ) (L L' : ℕ → List ℕ) → Holds w L → Holds w' L' → Steady w w' → length (L' free) ≡ length (L free)
free-kept w w' L L' h h' steady =
    sym (on_list w' L' h' free (omega arith))
    ∙ sum_ext 1024 (λ k. same (load w' (place k)) free) (λ k. same (load w (place k)) free)
    (λ k hk. ap (λ (b : Bool). cond b 1 0) (steady.frees k hk))
    ∙ on_list w L h free (omega arith)

-- ---- The machine's lists and the free rows

module _ (w : List ℕ) (L : ℕ → List ℕ) (T : ℕ → List Transaction) (E : List Event) (s : Shown w L T E) where
  lists-sum : sum_to list_count (λ p. length (L p)) ≡ on_lists T E + length (L free)
  unfolding on_lists
  lists-sum =
      sum-suc 771 (λ p. length (L p))
      ∙ omega (
        arith,
        sum-suc 770 (λ p. length (L p)),
        sum_ext 770 (λ p. length (L p)) (λ p. length (T p)) (λ p hp. sym (length-map (L p) (transaction_at w)) ∙ ap length (s.lists p hp)),
        sym (length-map (L fel) (event_at w)) ∙ ap length s.future,
      )

  pub population : length (L free) + (on_lists T E + loose w) ≡ 1024
  population = omega (arith, lists-sum, all-rows w L s.holds)

  -- a row is free if somebody more may live, and only then
  pub free_if : on_lists T E + loose w < 1024 → first w free < 1024
  free_if h = go (first_of w free (L free) (λ e. omega arith) (s.holds.listed free (omega arith)))
    where
      go : First w free (L free) → first w free < 1024
      go (none e n) = absurd (omega (arith, population, ap length e))
      go (some m e n) = n

  pub free-only_if : first w free < 1024 → on_lists T E + loose w < 1024
  free-only_if h = go (first_of w free (L free) (λ e. omega arith) (s.holds.listed free (omega arith)))
    where
      go : First w free (L free) → on_lists T E + loose w < 1024
      go (none e n) = absurd (omega arith)
      go (some m e n) = omega (arith, population, ap length e)
