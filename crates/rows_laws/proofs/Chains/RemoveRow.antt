-- Removal of a row from a list, wherever it stands: the walk that looks for it stops at its cell.
use Rattle.machine.specs.All.{ℕ, ◌<◌, ◌≡◌, ap, ◌≢◌, List, ◌∷◌, ◌++◌, arith, eqb}
use Rattle.rows_laws.specs.All.{list_count, place, head, fel, load, remove_at, cell_of, remove, ending, Holds}
use Rattle.rows_laws.proofs.{Counting.Occurs.same_refl, Order.SortedInsertion.front, Placing.Spot.short, Placing.Spot.walk-front, Placing.Spot.front_self}

module _ (w : List ℕ) (L : ℕ → List ℕ) (h : Holds w L) (p k : ℕ) (hp : p < list_count) (hk : k < 1024) (at : load w (place k) ≡ p) where
  -- what stands behind it
  pub rest_of : (b : List ℕ) × (L p ≡ front eqb k (L p) ++ k ∷ b)
  rest_of = front_self k (L p) (omega (arith, (h.listed p hp).once k hk, same_refl (load w (place k)) p at))

  -- the search from the head stops at the cell that leads to row k
  pub remove-is : p ≢ fel → remove w p k ≡ remove_at w p (ending (head p) (front eqb k (L p)))
  unfolding remove cell_of
  remove-is chained =
      ap (remove_at w p) (walk-front eqb w p k 1024 (head p) (L p) ((h.listed p hp).chain chained) (short w p (L p) (h.listed p hp)))
