-- How many rows stand where.
use Rattle.std.specs.Prelude.{◌+◌}
use Rattle.machine.specs.All.{ℕ, zero, suc, cond, List, ltb, length, Transaction, Event}
use Rattle.rows_laws.specs.Layout.{place, list_count, fel, row_count}
use Rattle.rows_laws.specs.Cells.{load}

-- f 0 + .. + f (n - 1)
unfoldable pub sum_to : ℕ → (ℕ → ℕ) → ℕ
sum_to zero f = 0
sum_to (suc n) f = sum_to n f + f n

-- the rows on no list, as the moving one
unfoldable pub loose : List ℕ → ℕ
loose w = sum_to row_count (λ k. cond (ltb (load w (place k)) list_count) 0 1)

-- the transactions of the machine's lists
unfoldable pub on_lists : (ℕ → List Transaction) → List Event → ℕ
on_lists T E = sum_to fel (λ p. length (T p)) + length E
