-- Document 02, item 13: "Join two accepted models of one edition: the second's servers, queues, values, lists and blocks are numbered on after
-- the first's, counters are added, tapes are laid end to end."
use Rattle.std.specs.Prelude.{◌+◌, ◌&&◌, ◌++◌}
use Rattle.machine.specs.All.{ℕ, Bool, cond, List, map, leb, eqb, length, Term, constant, minus_constant, parameter, clock_term, entries_of, content_of, units_in_use, units_free, facility_in_use, value, comparison, bracket, Sum, nothing, plus, minus, Condition, always, when_true, Share, facility, storage, Block, generate, advance, terminate, takes, frees, wait_server, wait_terms, moves, assign, priority, split, counts, assemble, preempt, give_back, BlockModel}
use Rattle.machine.specs.Limits as Limits

-- ---- "numbered on"

-- How far the numbers of a part are moved on in the joined model. There the facilities of both parts come first and then the storages of both,
-- so servers have two distances; `facilities` is how many the part has of its own, to tell the one from the other.
pub record Part : Type 0 where
  pub facilities : ℕ
  pub to_facility : ℕ
  pub to_storage : ℕ
  pub to_queue : ℕ
  pub to_value : ℕ
  pub to_list : ℕ
  pub to_block : ℕ

-- the first part keeps its numbers, but its storages stand behind the facilities of the second
abbrev pub first : (m₁ m₂ : BlockModel) → Part
first m₁ m₂ =
    record { facilities = m₁.facilities; to_facility = 0; to_storage = m₂.facilities; to_queue = 0; to_value = 0; to_list = 0; to_block = 0 }

abbrev pub second : (m₁ m₂ : BlockModel) → Part
second m₁ m₂ =
    record {
      facilities = m₂.facilities;
      to_facility = m₁.facilities;
      to_storage = m₁.facilities + length m₁.capacities;
      to_queue = m₁.queues;
      to_value = length m₁.values;
      to_list = m₁.lists;
      to_block = length m₁.blocks;
    }

module _ (p : Part) where
  unfoldable pub server_in : ℕ → ℕ
  server_in v = cond (leb v p.facilities) (v + p.to_facility) (v + p.to_storage)

  unfoldable mutual
    pub term_in : Term → Term
    term_in (constant n) = constant n
    term_in (minus_constant n) = minus_constant n
    term_in (parameter k) = parameter k
    term_in clock_term = clock_term
    term_in (entries_of b) = entries_of (b + p.to_block)
    term_in (content_of q) = content_of (q + p.to_queue)
    term_in (units_in_use v) = units_in_use (server_in v)
    term_in (units_free v) = units_free (server_in v)
    term_in (facility_in_use v) = facility_in_use (server_in v)
    term_in (value k) = value (k + p.to_value)
    term_in (comparison r a b) = comparison r (term_in a) (term_in b)
    term_in (bracket e) = bracket (sum_in e)

    pub sum_in : Sum → Sum
    sum_in nothing = nothing
    sum_in (plus t e) = plus (term_in t) (sum_in e)
    sum_in (minus t e) = minus (term_in t) (sum_in e)

  unfoldable pub share_in : Share → Share
  share_in (facility v) = facility (server_in v)
  share_in (storage v b) = storage (server_in v) b

  unfoldable pub condition_in : Condition → Condition
  condition_in always = always
  condition_in (when_true a r b) = when_true (term_in a) r (term_in b)

  unfoldable pub block_in : Block → Block
  block_in (generate list p') = generate (list + p.to_list) p'
  block_in (advance list) = advance (list + p.to_list)
  block_in (terminate a) = terminate a
  block_in (takes x) = takes (share_in x)
  block_in (frees x) = frees (share_in x)
  block_in (wait_server code v c) = wait_server code (server_in v) c
  block_in (wait_terms a r b) = wait_terms (term_in a) r (term_in b)
  block_in (moves c target) = moves (condition_in c) (target + p.to_block)
  block_in (assign k a) = assign k (term_in a)
  block_in (priority p') = priority p'
  block_in (split n target) = split n (target + p.to_block)
  block_in (counts c q) = counts c (q + p.to_queue)
  block_in (assemble n) = assemble n
  block_in (preempt f) = preempt (server_in f)
  block_in (give_back f) = give_back (server_in f)

-- ---- The joined model and tape

unfoldable pub join_models : (m₁ m₂ : BlockModel) → BlockModel
join_models m₁ m₂ =
    record {
      rules = m₁.rules;
      edition = m₁.edition;
      facilities = m₁.facilities + m₂.facilities;
      capacities = m₁.capacities ++ m₂.capacities;
      queues = m₁.queues + m₂.queues;
      values = map (sum_in (first m₁ m₂)) m₁.values ++ map (sum_in (second m₁ m₂)) m₂.values;
      lists = m₁.lists + m₂.lists;
      counter = m₁.counter + m₂.counter;
      blocks = map (block_in (first m₁ m₂)) m₁.blocks ++ map (block_in (second m₁ m₂)) m₂.blocks;
    }

abbrev pub join_tapes : (tape₁ tape₂ : List (List ℕ)) → List (List ℕ)
join_tapes tape₁ tape₂ = tape₁ ++ tape₂

-- "61 editions differ or a joined count or the counter passes its limit": where this is false
unfoldable pub joinable : (m₁ m₂ : BlockModel) → Bool
joinable m₁ m₂ =
    eqb m₁.edition m₂.edition
    && leb (m₁.facilities + m₂.facilities) Limits.max_facilities
    && leb (length m₁.capacities + length m₂.capacities) Limits.max_storages
    && leb (m₁.queues + m₂.queues) Limits.max_queues
    && leb (length m₁.values + length m₂.values) Limits.max_values
    && leb (m₁.lists + m₂.lists) Limits.max_lists
    && leb (m₁.counter + m₂.counter) Limits.max_counter
    && leb (length m₁.blocks + length m₂.blocks) Limits.max_blocks
