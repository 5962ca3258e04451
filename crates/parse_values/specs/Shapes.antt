-- How numbers, terms, sums and values are kept (Keeps.antt), and the largest block number that they name.
use Rattle.std.specs.Prelude.{◌+◌, ◌≤◌, ◌≡◌, ◌∷◌}
use Rattle.machine.specs.All.{ℕ, max, cond, List, eqb, T, length, drop, max_facilities, max_storages, max_queues, max_values, max_lists, max_blocks, max_constant, parameter_count, max_value_numbers, Cursor, Parser, Counts, simple_term, value_number, mention_field, Term, constant, minus_constant, parameter, clock_term, entries_of, content_of, units_in_use, units_free, facility_in_use, value, comparison, bracket, Sum, nothing, plus, minus}
use Rattle.constants.specs.declared.model.Model.{Model}
use Rattle.layout.specs.All.{term_numbers, signed_terms, sum_numbers, terms, small_term, small_sum}
use Rattle.parse_values.specs.{declared.Place.Place, declared.Range.Range, Keeps.Shape}

-- the counts of a header are within the model's limits
pub record Within (m : Model) : Type 0 where
  pub facilities : m.facilities ≤ max_facilities
  pub storages : m.storages ≤ max_storages
  pub queues : m.queues ≤ max_queues
  pub values : m.values ≤ max_values
  pub lists : m.lists ≤ max_lists
  pub blocks : m.blocks ≤ max_blocks

abbrev pub counts_of : Model → Counts
counts_of m =
    record {
      facilities = m.facilities;
      storages = m.storages;
      queues = m.queues;
      values = m.values;
      lists = m.lists;
      blocks = m.blocks;
    }

-- ---- The number after a tag from 0 to 9

abbrev pub range : ℕ → ℕ → ℕ → Range
range lo hi above = record { lo = lo; hi = hi; plus = above }

unfoldable pub range_of : Counts → ℕ → Range
range_of n tag =
    cond (eqb tag 0) (range 0 max_constant 0)
    (cond (eqb tag 1) (range 0 max_constant 0)
    (cond (eqb tag 2) (range 1 parameter_count 0)
    (cond (eqb tag 3) (range 0 0 0)
    (cond (eqb tag 4) (range 1 n.blocks 0)
    (cond (eqb tag 5) (range 1 n.queues 0)
    (cond (eqb tag 6) (range 1 n.storages n.facilities)
    (cond (eqb tag 7) (range 1 n.storages n.facilities)
    (cond (eqb tag 8) (range 1 n.facilities 0) (range 1 n.values 0)))))))))

unfoldable pub term_of : Counts → ℕ → ℕ → Term
term_of n tag k =
    cond (eqb tag 0) (constant k)
    (cond (eqb tag 1) (minus_constant k)
    (cond (eqb tag 2) (parameter k)
    (cond (eqb tag 3) clock_term
    (cond (eqb tag 4) (entries_of k)
    (cond (eqb tag 5) (content_of k)
    (cond (eqb tag 6) (units_in_use (n.facilities + k))
    (cond (eqb tag 7) (units_free (n.facilities + k))
    (cond (eqb tag 8) (facility_in_use k) (value k)))))))))

-- the machine's parser of that number inside a value
abbrev pub operand_field : List ℕ → Counts → ℕ → Parser Term
operand_field s n tag = cond (eqb tag 9) (mention_field s n) (simple_term (value_number s) n tag)

-- ---- The largest block number named, behind those that were named before

unfoldable mutual
  pub term_named : ℕ → Term → ℕ
  term_named n (constant k) = n
  term_named n (minus_constant k) = n
  term_named n (parameter k) = n
  term_named n clock_term = n
  term_named n (entries_of b) = max n b
  term_named n (content_of q) = n
  term_named n (units_in_use v) = n
  term_named n (units_free v) = n
  term_named n (facility_in_use v) = n
  term_named n (value k) = n
  term_named n (comparison r a b) = term_named (term_named n a) b
  term_named n (bracket e) = sum_named n e

  pub sum_named : ℕ → Sum → ℕ
  sum_named n nothing = n
  sum_named n (plus t e) = sum_named (term_named n t) e
  sum_named n (minus t e) = sum_named (term_named n t) e

-- ---- Shapes

-- so many numbers more in a value, within what is allowed
pub record Counted (p : Place) (c : Cursor) (numbers : List ℕ) : Type 0 where
  pub grown : c.numbers ≡ p.numbers + length numbers
  pub within : c.numbers ≤ max max_value_numbers p.numbers

abbrev pub term_shape : Shape Term
term_shape = record { numbers = term_numbers; named = term_named; fact = λ p t c. Counted p c (term_numbers t) × T (small_term t) }

-- what follows the tag of a term
abbrev pub operand_shape : ℕ → Shape Term
operand_shape tag =
    record {
      numbers = λ t. drop 1 (term_numbers t);
      named = term_named;
      fact = λ p t c. Counted p c (drop 1 (term_numbers t)) × T (small_term t) × (term_numbers t ≡ tag ∷ drop 1 (term_numbers t));
    }

abbrev pub sum_shape : Shape Sum
sum_shape = record { numbers = sum_numbers; named = sum_named; fact = λ p e c. Counted p c (sum_numbers e) × T (small_sum e) }

abbrev pub terms_shape : ℕ → Shape Sum
terms_shape left =
    record {
      numbers = signed_terms;
      named = sum_named;
      fact = λ p e c. Counted p c (signed_terms e) × T (small_sum e) × (terms e ≡ left);
    }

abbrev pub value_shape : Shape Sum
value_shape = record { numbers = sum_numbers; named = sum_named; fact = λ p e c. (length (sum_numbers e) ≤ max_value_numbers) × T (small_sum e) }

-- a term of a block is two numbers
abbrev pub block_term_shape : Shape Term
block_term_shape =
    record { numbers = term_numbers; named = λ n t. n; fact = λ p t c. (length (term_numbers t) ≡ 2) × T (small_term t) }

-- what is known of a value that was read
abbrev pub ProperValue : Sum → Type 0
ProperValue e = (length (sum_numbers e) ≤ max_value_numbers) × T (small_sum e)

-- what a value sees of a model: nothing below the values
abbrev pub before_values : Model → Counts
before_values m = record { facilities = m.facilities; storages = m.storages; queues = m.queues; values = 0; lists = 0; blocks = 0 }
