-- What a call of the tape maker promises, for every stream, all lists, doubles and lengths.
use Rattle.machine.specs.All.{ℕ, List, length, in_force, Cursor, parsed, tape_of, beginning}
use Rattle.std.specs.Prelude.{Some as some}
use Rattle.std.specs.Prelude.{Float, ◌/◌, ◌≡◌, Result}
use Rattle.constants.specs.declared.refusals.Refusal.{Refusal}
use Rattle.streams.specs.Stream.{beginning as start_state}
use Rattle.tapes_laws.specs.{Limits.numbers_per_list, Given.Listed, Given.lists_of, Answers.Says}
use Rattle.tapes_laws.specs.Tape.{made, make_tape, leaves, tape_times}

-- validation takes these bytes as the tape of a model with that many lists, and reads these times
pub record Taken (bytes : List ℕ) (lists : ℕ) (times : List (List ℕ)) : Type 0 where
  pub behind : Cursor
  pub takes : tape_of in_force bytes lists beginning ≡ parsed times behind

-- the tape made is accepted, for a model with that many lists
abbrev pub Accepts : (stream : ℕ) → List ℕ → List Float → (room : ℕ) → Type 0
Accepts stream lists numbers room =
    (b : List ℕ) → make_tape stream lists numbers room ≡ made b → (ls : List Listed) → lists_of lists numbers ≡ some ls →
    Taken b (length lists / numbers_per_list) (tape_times ls (start_state stream))

pub record Contract (stream : ℕ) (lists : List ℕ) (numbers : List Float) (before : List ℕ) (r : Result ℕ Refusal) (behind : List ℕ) : Type 0 where
  pub answered : Says r (make_tape stream lists numbers (length before))
  pub bytes : behind ≡ leaves (make_tape stream lists numbers (length before)) before
  pub accepted : Accepts stream lists numbers (length before)
