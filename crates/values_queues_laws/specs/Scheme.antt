-- The row machine: the WS scheme.
use Rattle.machine.specs.All.{ℕ, Bool, true, cond, not, List, ltb, eqb, get_or}
use Rattle.std.specs.Prelude.{ℤ, ◌+◌, ◌*◌, ◌-◌}
use Rattle.layout.specs.Layout as Layout
use Rattle.rows_laws.specs.All.{head, wsl, next_field, row_count, read, wake_all}
use Rattle.evaluation.specs.Evaluation.{related_by}
use Rattle.state.specs.declared.scalars.Scalars.{Scalars}
use Rattle.values_queues_laws.specs.Sides.{side_at, side_by}

-- where the block of row k stands in the tables
unfoldable pub block_of : List ℕ → ℕ → ℕ
block_of w k = Layout.block_width * (read w next_field k - 1)

-- a row leaves the WSL unless it stands at a WAITIF whose comparison holds: left, relation and right stand behind the block's kind
unfoldable pub leaves_from : (tables : List ℕ) (blocks : ℕ) (left right : ℕ → ℤ) (at : ℕ) → Bool
leaves_from tables blocks left right at =
    cond (ltb at (Layout.block_width * blocks))
    (cond (eqb (get_or tables at 0) 9) (not (related_by (get_or tables (at + 3) 0) (left (at + 1)) (right (at + 4)))) true)
    true

module _ (tables : List ℕ) (blocks values : ℕ) (tally : List ℕ) (clock : ℕ) where
  unfoldable pub leaves : (w : List ℕ) (k : ℕ) → Bool
  leaves w k = leaves_from tables blocks (side_at tables values tally clock w k) (side_at tables values tally clock w k) (block_of w k)

  -- of a row that stands at `at`, by answers for all that stand there
  unfoldable pub leaves_by_lem : (w : List ℕ) (k at left right : ℕ) → Bool
  leaves_by_lem w k at left right =
      leaves_from tables blocks (side_by tables values tally clock left w k) (side_by tables values tally clock right w k) at

unfoldable pub ws_scheme : (tables : List ℕ) (blocks values : ℕ) (tally : List ℕ) (x : Scalars) (w : List ℕ) → List ℕ
ws_scheme tables blocks values tally x w =
    cond (eqb x.end 0) (wake_all (leaves tables blocks values tally x.clock) row_count w wsl (head wsl)) w
