-- What comparisons read and what blocks change of it: the things that the WAITIFs of a model name, through values. The rules ask every waiter
-- after every turn; these definitions serve the law by which an engine need not.
use Rattle.std.specs.Prelude.{◌-◌, ◌<◌}
use Rattle.machine.specs.Basics.{ℕ, List, Option, none, some, length, get_or}
use Rattle.machine.specs.Term.{Term, constant, minus_constant, parameter, clock_term, entries_of, content_of, units_in_use, units_free, facility_in_use, value, comparison, bracket, Sum, nothing, plus, minus, Condition, always, when_true}
use Rattle.machine.specs.Block.{share_server, Block, generate, advance, terminate, takes, frees, wait_server, wait_terms, moves, assign, priority, split, counts, assemble, preempt, give_back, facts, BlockModel, block_at}

-- The parameters, the clock, and by their number from 0 on: entries of a block, a queue, a server, a value.
pub data Thing : Type 0 where
  own the_clock : Thing
  entry queue server worth : ℕ → Thing

-- ---- Terms that name only things of a set

module _ (S : Thing → Type 0) where
  -- where the first `lower` values may be named: any other is worth 0
  module _ (lower : ℕ) where
    abbrev mutual
      pub Within : Term → Type 0
      Within (constant n) = Unit {0}
      Within (minus_constant n) = Unit {0}
      Within (parameter k) = S own
      Within clock_term = S the_clock
      Within (entries_of b) = S (entry (b - 1))
      Within (content_of q) = S (queue (q - 1))
      Within (units_in_use v) = S (server (v - 1))
      Within (units_free v) = S (server (v - 1))
      Within (facility_in_use v) = S (server (v - 1))
      Within (value k) = k - 1 < lower → S (worth (k - 1))
      Within (comparison r a b) = Within a × Within b
      Within (bracket e) = SumWithin e

      pub SumWithin : Sum → Type 0
      SumWithin nothing = Unit {0}
      SumWithin (plus t e) = Within t × SumWithin e
      SumWithin (minus t e) = Within t × SumWithin e

    abbrev pub ConditionWithin : Condition → Type 0
    ConditionWithin always = Unit {0}
    ConditionWithin (when_true a r b) = Within a × Within b

    abbrev pub WaitWithin : Option Condition → Type 0
    WaitWithin none = Unit {0}
    WaitWithin (some c) = ConditionWithin c

  -- a value of the set names only things of the set
  abbrev pub Through : List Sum → Type 0
  Through values = (k : ℕ) → k < length values → S (worth k) → SumWithin k (get_or values k nothing)

  -- the set has all that the WAITIFs of a model read
  pub record Watches (m : BlockModel) : Type 0 where
    pub waits : (n : ℕ) → WaitWithin (length m.values) (facts (block_at m n)).waits_while
    pub through : Through m.values

-- ---- Blocks

-- what a block changes besides the count of its entries is not in the set
abbrev pub Spares : (Thing → Type 0) → Block → Type 0
Spares S (generate list p) = Unit {0}
Spares S (advance list) = Unit {0}
Spares S (terminate a) = Unit {0}
Spares S (takes x) = S (server (share_server x - 1)) → ⊥
Spares S (frees x) = S (server (share_server x - 1)) → ⊥
Spares S (wait_server code v c) = Unit {0}
Spares S (wait_terms a r b) = Unit {0}
Spares S (moves c target) = Unit {0}
Spares S (assign k a) = Unit {0}
Spares S (priority p) = Unit {0}
Spares S (split n target) = Unit {0}
Spares S (counts c q) = S (queue (q - 1)) → ⊥
Spares S (assemble n) = Unit {0}
Spares S (preempt f) = S (server (f - 1)) → ⊥
Spares S (give_back f) = S (server (f - 1)) → ⊥
