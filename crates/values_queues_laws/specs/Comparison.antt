-- The row machine: blocks with terms, of the block whose numbers begin at `at` of the tables.
use Rattle.std.specs.Prelude.{◌+◌, ◌∷◌}
use Rattle.machine.specs.All.{ℕ, Bool, cond, List, [], ltb, get_or, low32}
use Rattle.rows_laws.specs.All.{parameter_field, read, write}
use Rattle.evaluation.specs.Evaluation.{term_at, compare_at}
use Rattle.state.specs.declared.scalars.Scalars.{Scalars}
use Rattle.moves.specs.Motion.{Moved, go_to, go_on_lem}

-- the parameters of row k, as bits
unfoldable pub parameters_at : List ℕ → ℕ → List ℕ
parameters_at w k = read w 2 k ∷ read w 3 k ∷ read w 4 k ∷ read w 5 k ∷ []

-- left, relation and right stand behind the block's kind
unfoldable pub holds_at : (tables : List ℕ) (values : ℕ) (w tally : List ℕ) (clock k at : ℕ) → Bool
holds_at tables values w tally clock k at = compare_at tables tally values clock (parameters_at w k) (at + 1)

-- the term of a LET stands behind its parameter
unfoldable pub worth_at : (tables : List ℕ) (values : ℕ) (w tally : List ℕ) (clock k at : ℕ) → ℕ
worth_at tables values w tally clock k at = low32 (term_at tables tally values clock (parameters_at w k) (at + 2))

unfoldable pub set_parameter : List ℕ → (k i x : ℕ) → List ℕ
set_parameter w k i x = cond (ltb i 4) (write w (parameter_field + i) k x) w

module _ (tables : List ℕ) (values : ℕ) (w tally : List ℕ) (x : Scalars) (at : ℕ) where
  unfoldable pub branch_rows : Moved
  branch_rows = cond (holds_at tables values w tally x.clock x.moving at) (go_to w x (get_or tables (at + 6) 0)) (go_on_lem w x)

  unfoldable pub assign_rows : Moved
  assign_rows =
      go_on_lem (set_parameter w x.moving (get_or tables (at + 1) 0) (worth_at tables values w tally x.clock x.moving at)) x
