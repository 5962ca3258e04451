-- The row machine: a side of a comparison, for those that wait on it. One that names no parameter is worth the same to all.
use Rattle.machine.specs.All.{ℕ, Bool, true, false, cond, not, List, ltb, eqb, get_or, replicate, signed}
use Rattle.std.specs.Prelude.{ℤ, ◌+◌, ◌≡◌, Option, Some, None}
use Rattle.layout.specs.Layout as Layout
use Rattle.evaluation.specs.Evaluation.{term_at}
use Rattle.values_queues_laws.specs.Comparison.{parameters_at}

-- does the term at `at` name a parameter, itself or through values? Past the tables it counts as one that does.
unfoldable pub names_own : List ℕ → ℕ → Bool
names_own tables at =
    cond (ltb at Layout.tables_size)
    (cond (eqb (get_or tables at 0) 2) true
    (cond (ltb (get_or tables at 0) 9) false (not (eqb (get_or tables (Layout.names_own + get_or tables (at + 1) 0) 0) 0))))
    true

-- any parameters, as bits
abbrev pub no_parameters : List ℕ
no_parameters = replicate 4 0

-- the number of an answer for all: its bits, or 2 to the 32 where there is none
abbrev pub answer_number : Option ℕ → ℕ
answer_number None = 4294967296
answer_number (Some n) = n

module _ (tables : List ℕ) (values : ℕ) (tally : List ℕ) (clock : ℕ) where
  -- what the term at `at` is worth to row k
  unfoldable pub side_at : (w : List ℕ) (k at : ℕ) → ℤ
  side_at w k at =
      cond (names_own tables at) (term_at tables tally values clock (parameters_at w k) at) (term_at tables tally values clock no_parameters at)

  -- by an answer for all: its bits, or 2 to the 32 where there is none
  unfoldable pub side_by : (answer : ℕ) (w : List ℕ) (k at : ℕ) → ℤ
  side_by answer w k at = cond (ltb answer Layout.word_end) (signed answer) (term_at tables tally values clock (parameters_at w k) at)

  -- that answer is the one of the term at `at`
  pub record ForAll (at answer : ℕ) : Type 0 where
    pub given : ltb answer Layout.word_end ≡ not (names_own tables at)
    pub worth : names_own tables at ≡ false → signed answer ≡ term_at tables tally values clock no_parameters at
