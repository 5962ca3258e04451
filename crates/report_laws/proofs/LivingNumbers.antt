-- The numbers of the living: their count, and number and place of each by rising number, are the machine's.
use Rattle.machine.specs.All.{ℕ, ◌≤◌, ◌<◌, ℕ_discrete, arith, ◌≡◌, refl, sym, ap, ap₂, ◌∙◌, false, List, ◌∷◌, eq-eqb, eqb, length, replicate, length-replicate, State, Place, places, by_number, place_numbers, bit, Each, standing}
use Rattle.machine.proofs.{Decoding.Proper.Names, Lists.Sums.sum_on, Lists.Sums.sum-length, Conservation.Standing.times-standing, Lists.Sorting.sorted-is}
use Rattle.rows_laws.specs.All.{number_field, read}
use Rattle.rows_laws.proofs.Counting.Sums.{sum_ext}
use Rattle.state.specs.All.{Listing}
use Rattle.report_laws.specs.{place_of, place_at_lem, lives, living_count, place_row, living_numbers}
use Rattle.report_laws.proofs as our
use our.Ranking.{weight, all, list-numbers, ranking-sum, ranking-rises}
use our.{Rows.sum-two, Places.all-places, Ranking.list_to, Ranking.ranking}

-- ---- Count and order

module _ (w : List ℕ) (moving : ℕ) (s : State) (h : Listing w moving s.moving s) (qls : length s.ql ≤ 64)
    (wels : length s.wel ≤ 384) (blocks : length s.gatherers ≤ 256)
    (known : Each (λ i. Names 64 i.facility) s.interrupted)
    (once : (n : ℕ) → standing s n ≤ 1) where
  abbrev total : (Place → ℕ) → ℕ
  total f = all w moving f

  same_sum : (f : Place → ℕ) → total f ≡ sum_on f (places s)
  same_sum f = all-places f w moving s h qls wels blocks known

  count-all : living_count w moving ≡ total (λ p. 1)
  unfolding living_count
  count-all = sum_ext 1024 (lives w moving) (weight w moving (λ p. 1)) (λ k l. unfold lives in refl)

  pub count-places : living_count w moving ≡ length (places s)
  count-places = count-all ∙ same_sum (λ p. 1) ∙ sum-length (places s)

  -- two living rows have two numbers
  apart : (j k : ℕ) → j < 1024 → k < 1024 → eqb (place_of w moving j) 0 ≡ false → eqb (place_of w moving k) 0 ≡ false
      → read w number_field j ≡ read w number_field k → j ≡ k
  apart j k a b cj ck e = go (ℕ_discrete j k)
    where
      is : Place → ℕ
      is p = bit (eqb p.number (read w number_field j))

      one : (i : ℕ) → eqb (place_of w moving i) 0 ≡ false → read w number_field i ≡ read w number_field j → weight w moving is i ≡ 1
      one i c q = unfold place_at_lem in (rw (c, eq-eqb (read w number_field i) (read w number_field j) q))

      go : Dec (j ≡ k) → j ≡ k
      go (yes q) = q
      go (no d) =
          absurd
          (omega (
            arith,
            sum-two 1024 (weight w moving is) j k a b d,
            one j cj refl,
            one k ck (sym e),
            same_sum is,
            times-standing s (read w number_field j),
            once (read w number_field j),
          ))

  abbrev zeros : List ℕ
  zeros = replicate 1024 0

  pub ranked-places : list_to (living_count w moving) (ranking w moving zeros (length-replicate {A = ℕ} 1024 0)) ≡ by_number (places s)
  unfolding living_count
  ranked-places =
      sorted-is (places s) _ (λ n. omega (arith, times-standing s n, once n))
      (ranking-rises w moving zeros (length-replicate {A = ℕ} 1024 0) apart)
      (λ f. ranking-sum w moving zeros (length-replicate {A = ℕ} 1024 0) f ∙ same_sum f)

  -- the living by number: how many, then place by place
  pub living-numbers : living_numbers w moving ≡ length (places s) ∷ place_numbers (by_number (places s))
  unfolding living_numbers place_row
  living-numbers = ap₂ ◌∷◌ count-places (list-numbers _ _ ∙ ap place_numbers ranked-places)
