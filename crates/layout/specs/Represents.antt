-- When header, tables and list cells stand for a model and a tape of the machine.
use Rattle.machine.specs.All.{ℕ, suc, Bool, true, false, List, [], leb, T, length, get_or, take, drop, replicate, in_force, max_constant, max_lists, Cursor, parsed, times, field_up_to, View, evaluate, Term, constant, minus_constant, parameter, clock_term, entries_of, content_of, units_in_use, units_free, facility_in_use, value, comparison, bracket, Sum, nothing, plus, minus, Block, terminate, facts, BlockModel, all_of, Thing, the_clock, entry, Watches, Spares}
use Rattle.std.specs.Prelude.{ℤ, ◌+◌, ◌*◌, ◌<◌, ◌≡◌, ◌&&◌, ◌++◌}
use Rattle.constants.specs.declared.model.Model.{Model}
use Rattle.layout.specs.Layout as Layout
use Rattle.layout.specs.Numbers.{sum_numbers, block_numbers}

-- these numbers stand in a list from a position on
abbrev pub At : List ℕ → ℕ → List ℕ → Type 0
At l at numbers = take (length numbers) (drop at l) ≡ numbers

unfoldable pub header_of : BlockModel → Model
header_of m =
    record {
      facilities = m.facilities;
      storages = length m.capacities;
      queues = m.queues;
      values = length m.values;
      lists = m.lists;
      counter = m.counter;
      blocks = length m.blocks;
    }

-- constants are at most 2,147,483,647
unfoldable mutual
  pub small_term : Term → Bool
  small_term (constant n) = leb n max_constant
  small_term (minus_constant n) = leb n max_constant
  small_term (parameter k) = true
  small_term clock_term = true
  small_term (entries_of b) = true
  small_term (content_of q) = true
  small_term (units_in_use v) = true
  small_term (units_free v) = true
  small_term (facility_in_use v) = true
  small_term (value k) = true
  small_term (comparison r a b) = small_term a && small_term b
  small_term (bracket e) = small_sum e

  pub small_sum : Sum → Bool
  small_sum nothing = true
  small_sum (plus t e) = small_term t && small_sum e
  small_sum (minus t e) = small_term t && small_sum e

unfoldable pub small_block : Block → Bool
small_block b = all_of small_term (facts b).terms

-- from byte p of the tape on stand the times of a sample list
abbrev pub TimesAt : List ℕ → ℕ → List ℕ → Type 0
TimesAt bytes p l =
    (c : Cursor) → c.position ≡ p → (d : Cursor)
    × (times (length l) (field_up_to in_force.max_number bytes 8 0 in_force.max_time) c ≡ parsed l d)

-- a set of things that has all that the WAITIFs on comparisons read: where the cell of a block is 0, the block changes nothing of it, and
-- where that of the clock is 0, it has not the clock
pub record Watching (m : BlockModel) (tables : List ℕ) : Type 0 where
  pub watched : Thing → Bool
  pub watches : Watches (λ x. watched x ≡ true) m
  pub clock : get_or tables Layout.clock_asked 0 ≡ 0 → watched the_clock ≡ false
  pub entries : (b : ℕ) → b < length m.blocks → get_or tables (Layout.asked + b) 0 ≡ 0 → watched (entry b) ≡ false
  pub changes : (b : ℕ) → b < length m.blocks → get_or tables (Layout.asked + b) 0 ≡ 0
      → Spares (λ x. watched x ≡ true) (get_or m.blocks b (terminate 0))

-- where the cell of a value is 0, its worth is the same with any parameters
abbrev pub Sharing : BlockModel → List ℕ → Type 0
Sharing m tables =
    (k : ℕ) → k < length m.values → get_or tables (Layout.names_own + k) 0 ≡ 0 → (w : View) (p p' : List ℤ)
    → evaluate m.values w p (value (suc k)) ≡ evaluate m.values w p' (value (suc k))

-- the model was judged by the rules that the engine keeps
pub record Represents (m : BlockModel) (tape : List (List ℕ)) (tape_bytes tables lists : List ℕ) : Type 0 where
  pub rules : m.rules ≡ in_force
  pub edition : get_or tables Layout.edition 0 ≡ m.edition
  pub blocks : (b : ℕ) → b < length m.blocks → At tables (Layout.block_width * b) (block_numbers (get_or m.blocks b (terminate 0)))
  pub small-blocks : (b : ℕ) → T (small_block (get_or m.blocks b (terminate 0)))
  pub values : (k : ℕ) → k < length m.values
      → At tables (Layout.values + Layout.value_width * k) (sum_numbers (get_or m.values k nothing))
  pub small-values : (k : ℕ) → T (small_sum (get_or m.values k nothing))
  -- of all 64 servers; 0 where there is none
  pub capacities : (v : ℕ) → v < Layout.server_count
      → get_or tables (Layout.capacities + v) 0 ≡ get_or (replicate m.facilities 1 ++ m.capacities) v 0
  pub watching : Watching m tables
  pub sharing : Sharing m tables
  -- list k: where its times begin, at k, and its count, at 16 + k; a list that is not there has no times
  pub begins : (k : ℕ) → k < m.lists → TimesAt tape_bytes (get_or lists k 0) (get_or tape k [])
  pub counts : (k : ℕ) → k < max_lists → get_or lists (Layout.list_counts + k) 0 ≡ length (get_or tape k [])
