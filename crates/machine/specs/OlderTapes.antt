-- Document 02, item 1: "Runs of older tapes that did not end 22 keep their bytes." Proved in ../proofs/later/OlderTapes.antt, for any two
-- rules of which the one allows no less, and so from document 01 to document 02; the clock term in ../proofs/runs/ClockTerm.antt.
use Rattle.machine.specs.Basics.{ℕ, List}
use Rattle.machine.specs.{Rules.Rules, Term.clock_term, Term.term, Block.BlockModel, State.State, Turn.taking, Run.states, Validate.accept, Validate.validate, Outcome.Outcome, Outcome.outcome, Claims.Each}
use Rattle.machine.specs.Trace.{Record, taken, no_more, read_record}
use Rattle.std.specs.Prelude.{ℤ, pos, ◌≤◌, ◌≡◌}

-- clock limit, time limit, largest number and numbers of kinds and editions are no lower
pub record Wider (old new : Rules) : Type 0 where
  pub clock : old.max_clock ≤ new.max_clock
  pub time : old.max_time ≤ new.max_time
  pub number : old.max_number ≤ new.max_number
  pub kinds : old.kinds ≤ new.kinds
  pub editions : old.editions ≤ new.editions

-- and all else is the same
pub record AllowsNoLess (old new : Rules) : Type 0 where
  pub wider : Wider old new
  pub holders : old.holders ≡ new.holders

-- the same eight results, trace and report, where the old run was accepted and did not end 22
abbrev pub SameBytes : (old new : Outcome) → Type 0
SameBytes old new = old.refusal ≡ 0 → (old.end ≡ 22 → ⊥) → new ≡ old

abbrev pub KeepsRuns : (old new : Rules) → Type 0
KeepsRuns old new =
    (model tape : List ℕ) (budget work room report : ℕ)
    → SameBytes (outcome old model tape budget work room report) (outcome new model tape budget work room report)

-- Every record that the old reader takes, the new one takes alike, and "no more" is said at the same positions.
pub record KeepsTraces (old new : Rules) : Type 0 where
  pub records : (s : List ℕ) (at : ℕ) {r : Record} {after : ℕ} → read_record old s at ≡ taken r after → read_record new s at ≡ taken r after
  pub ends : (s : List ℕ) (at : ℕ) → read_record old s at ≡ no_more → read_record new s at ≡ no_more

-- Document 01's clock term is the clock itself. Under rules with clocks below 2 to the 31 that is what the clock term gives: in each
-- state of a run, and at the clock at which the next turn reads its terms.
pub record ReadsClock (s : State) : Type 0 where
  pub now : (parameters lower : List ℤ) → term s.view parameters lower clock_term ≡ pos s.view.clock
  pub next : (parameters lower : List ℤ) → term (taking s.moving s).view parameters lower clock_term ≡ pos (taking s.moving s).view.clock

abbrev pub KeepsClockTerm : Rules → Type 0
KeepsClockTerm rules =
    (model tape : List ℕ) (work report budget room : ℕ) (m : BlockModel) (times : List (List ℕ))
    → validate rules model tape work report ≡ accept m times → Each ReadsClock (states m times budget room)
