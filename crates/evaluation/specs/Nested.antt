-- How deep brackets open: "four open brackets (each tag 10 or 11 opens one)" in a value, none in a term of a block.
use Rattle.std.specs.Prelude.{◌-◌, ◌&&◌}
use Rattle.machine.specs.All.{ℕ, Bool, true, T, ltb, get_or, max_brackets, Term, constant, minus_constant, parameter, clock_term, entries_of, content_of, units_in_use, units_free, facility_in_use, value, comparison, bracket, Sum, nothing, plus, minus, Block, terminate, facts, BlockModel, all_of}

-- at most d brackets open, one in the other
unfoldable mutual
  pub nested_term : ℕ → Term → Bool
  nested_term d (constant n) = true
  nested_term d (minus_constant n) = true
  nested_term d (parameter k) = true
  nested_term d clock_term = true
  nested_term d (entries_of b) = true
  nested_term d (content_of q) = true
  nested_term d (units_in_use v) = true
  nested_term d (units_free v) = true
  nested_term d (facility_in_use v) = true
  nested_term d (value k) = true
  nested_term d (comparison r a b) = ltb 0 d && (nested_term (d - 1) a && nested_term (d - 1) b)
  nested_term d (bracket e) = ltb 0 d && nested_sum (d - 1) e

  pub nested_sum : ℕ → Sum → Bool
  nested_sum d nothing = true
  nested_sum d (plus t e) = nested_term d t && nested_sum d e
  nested_sum d (minus t e) = nested_term d t && nested_sum d e

-- the terms of a block are a tag and a number
unfoldable pub nested_block : Block → Bool
nested_block b = all_of (nested_term 0) (facts b).terms

pub record Nested (m : BlockModel) : Type 0 where
  pub blocks : (b : ℕ) → T (nested_block (get_or m.blocks b (terminate 0)))
  pub values : (k : ℕ) → T (nested_sum max_brackets (get_or m.values k nothing))
