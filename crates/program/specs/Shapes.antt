-- How operands and blocks are kept in the tables.
use Rattle.std.specs.Prelude.{◌+◌, ◌-◌, ◌≤◌, ◌≡◌, ◌∷◌, ◌++◌}
use Rattle.machine.specs.All.{ℕ, List, [], T, length, take, drop, nth, Parser, parsed, continue, field, Term, code_index, Block, Counts, block_term, code_of, code_server}
use Rattle.constants.specs.declared.model.Model.{Model}
use Rattle.layout.specs.Layout as Layout
use Rattle.layout.specs.All.{term_numbers, block_numbers, small_term}
use Rattle.parse_values.specs.{declared.Range.Range, Keeps.Shape}
use Rattle.program.specs.Formed.{Formed}

-- the kinds with operands of a shape of their own
abbrev pub branch_kind : ℕ
branch_kind = 10

abbrev pub assign_kind : ℕ
assign_kind = 12

abbrev pub joined_kind : ℕ
joined_kind = 17

-- the capacities of the storages, as they stand in the tables
abbrev pub capacities_of : Model → List ℕ → List ℕ
capacities_of m cells = take m.storages (drop (Layout.capacities + m.facilities) cells)

-- ---- Two numbers

pub record Pair : Type 0 where
  pub first : ℕ
  pub second : ℕ

unfoldable pub pair_field : List ℕ → Range → Range → Parser Pair
pair_field s a b = λ c.
    continue (field s 3 a.lo a.hi c)
    (λ x d. continue (field s 3 b.lo b.hi d) (λ y e. parsed (record { first = x; second = y }) e))

abbrev pub pair_shape : Range → Range → Shape Pair
pair_shape a b =
    record {
      numbers = λ x. (a.plus + (x.first - a.lo)) ∷ (b.plus + (x.second - b.lo)) ∷ [];
      named = λ n x. n;
      fact = λ p x c. ((a.lo ≤ x.first) × (x.first ≤ a.hi)) × ((b.lo ≤ x.second) × (x.second ≤ b.hi));
    }

-- a storage and units of it
unfoldable pub units_field : List ℕ → Counts → List ℕ → Parser Pair
units_field s n capacities = λ c.
    continue (field s 3 1 n.storages c)
    (λ k d. continue (field s 3 1 (nth capacities k 0) d) (λ b e. parsed (record { first = n.facilities + k; second = b }) e))

abbrev pub units_shape : Counts → Shape Pair
units_shape n =
    record { numbers = λ x. (x.first - 1) ∷ x.second ∷ []; named = λ n x. n; fact = λ p x c. Unit {0} }

-- ---- A code and a server

unfoldable pub watched_field : List ℕ → Counts → Parser Pair
watched_field s n = λ c.
    continue (field s 3 1 6 c) (λ code d. continue (code_server s n code d) (λ v e. parsed (record { first = code; second = v }) e))

abbrev pub watched_shape : Shape Pair
watched_shape =
    record { numbers = λ x. code_index (code_of x.first) ∷ (x.second - 1) ∷ []; named = λ n x. n; fact = λ p x c. Unit {0} }

-- ---- A term, a relation and a term

pub record Compared : Type 0 where
  pub left : Term
  pub relation : ℕ
  pub right : Term

unfoldable pub compared_field : List ℕ → Counts → Parser Compared
compared_field s n = λ c.
    continue (block_term s n c)
    (λ a d.
    continue (field s 3 1 6 d) (λ r e. continue (block_term s n e) (λ b f. parsed (record { left = a; relation = r; right = b }) f)))

pub record ProperCompared (x : Compared) : Type 0 where
  pub left-two : length (term_numbers x.left) ≡ 2
  pub left-small : T (small_term x.left)
  pub from : 1 ≤ x.relation
  pub to : x.relation ≤ 6
  pub right-two : length (term_numbers x.right) ≡ 2
  pub right-small : T (small_term x.right)

abbrev pub compared_shape : Shape Compared
compared_shape =
    record {
      numbers = λ x. term_numbers x.left ++ (x.relation ∷ term_numbers x.right);
      named = λ n x. n;
      fact = λ p x c. ProperCompared x;
    }

-- ---- Blocks

-- what follows a kind
abbrev pub operands_shape : (most kind : ℕ) → Shape Block
operands_shape most kind =
    record {
      numbers = λ b. drop 1 (block_numbers b);
      named = λ n b. n;
      fact = λ p b c. Formed most b × (block_numbers b ≡ kind ∷ drop 1 (block_numbers b));
    }

abbrev pub block_shape : ℕ → Shape Block
block_shape most = record { numbers = block_numbers; named = λ n b. n; fact = λ p b c. Formed most b }
