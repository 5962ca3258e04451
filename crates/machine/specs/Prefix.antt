-- Of two runs of one model and tape, whatever their budgets and rooms for the trace, one is the beginning of the other. So a trace that
-- was cut by its budget or its buffer begins every longer one. Proved in ../proofs/runs/Prefix.antt.
use Rattle.std.specs.Prelude.{◌≤◌, ◌≡◌, ◌++◌}
use Rattle.machine.specs.Basics.{ℕ, List, length, drop}
use Rattle.machine.specs.{Trace.Record, Block.BlockModel, Setters.set_end, Run.run, Run.states, Outcome.records_of, Claims.Each}

-- some records, and others behind them
abbrev pub BeginsWith : (all beginning : List Record) → Type 0
BeginsWith all beginning = all ≡ beginning ++ drop (length beginning) all

-- of the run with a budget and a room, beside the one with another budget' and room'
pub record Prefix (m : BlockModel) (tape : List (List ℕ)) (budget room budget' room' : ℕ) : Type 0 where
  -- after equally many turns the two states are the same but for their ends
  pub same : (run m tape budget room).turns ≡ (run m tape budget' room').turns
      → set_end 0 (run m tape budget' room') ≡ set_end 0 (run m tape budget room)
  -- the records of the one with no more turns begin those of the other
  pub begins : (run m tape budget room).turns ≤ (run m tape budget' room').turns
      → BeginsWith (records_of (run m tape budget' room')) (records_of (run m tape budget room))
  -- a budget and a room that are no smaller give no fewer turns
  pub longer : budget ≤ budget' → room ≤ room' → (run m tape budget room).turns ≤ (run m tape budget' room').turns
  -- and the very same run where it ended by neither 3 nor 4
  pub own-end : budget ≤ budget' → room ≤ room' → ((run m tape budget room).end ≡ 3 → ⊥) → ((run m tape budget room).end ≡ 4 → ⊥)
      → run m tape budget' room' ≡ run m tape budget room

-- each state of a run is, but for its end, the last one of the run whose budget is its turns: what holds of every run's last state for
-- every budget, whatever its end, holds of every state
abbrev pub StatesAreRuns : BlockModel → List (List ℕ) → (budget room : ℕ) → Type 0
StatesAreRuns m tape budget room = Each (λ s. set_end 0 s ≡ set_end 0 (run m tape s.turns room)) (states m tape budget room)
