-- The row machine: a WAITIF on a comparison, of the block whose numbers begin at `at` of the tables.
use Rattle.std.specs.Prelude.{◌+◌}
use Rattle.machine.specs.All.{ℕ, Bool, false, cond, List, get_or}
use Rattle.rows_laws.specs.All.{wsl}
use Rattle.evaluation.specs.Evaluation.{related_by, compare_at}
use Rattle.state.specs.declared.scalars.Scalars.{Scalars}
use Rattle.moves.specs.Motion.{Moved, in_order_lem, go_on_lem, wait_on}
use Rattle.values_queues_laws.specs.Sides.{names_own, no_parameters, side_at}

-- left, relation and right stand behind the block's kind
unfoldable pub held_at : (tables : List ℕ) (values : ℕ) (w tally : List ℕ) (clock k at : ℕ) → Bool
held_at tables values w tally clock k at =
    related_by (get_or tables (at + 3) 0) (side_at tables values tally clock w k (at + 1)) (side_at tables values tally clock w k (at + 4))

-- it names no parameter, and holds for all
unfoldable pub held_by_all : (tables : List ℕ) (values : ℕ) (tally : List ℕ) (clock at : ℕ) → Bool
held_by_all tables values tally clock at =
    cond (names_own tables (at + 1)) false
    (cond (names_own tables (at + 4)) false (compare_at tables tally values clock no_parameters (at + 1)))

unfoldable pub wait_terms_rows : (tables : List ℕ) (values : ℕ) (w tally : List ℕ) (x : Scalars) (at : ℕ) → Moved
wait_terms_rows tables values w tally x at =
    cond (held_at tables values w tally x.clock x.moving at) (wait_on w x wsl in_order_lem) (go_on_lem w x)
