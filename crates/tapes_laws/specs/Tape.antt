-- Document 02, item 4: the whole tape from a stream and the lists in order, and the answers of the tape maker.
use Rattle.machine.specs.All.{ℕ, cond, List, [], map, leb, length, drop, flat, number_bytes}
use Rattle.std.specs.Prelude.{Option, None as none, Some as some}
use Rattle.std.specs.Prelude.{Float, ◌∷◌, ◌++◌}
use Rattle.std.specs.Prelude.{Result, Ok, Err}
use Rattle.constants.specs.Numbers.{refusal_number}
use Rattle.constants.specs.declared.refusals.Refusal.{Refusal}
use Rattle.streams.specs.{Stream.start_of}
use Rattle.tapes_laws.specs.{Source.Source, Source.times_of, Source.state_after, Given.Listed, Given.lists_of}

-- ---- Bytes

unfoldable pub bytes_of : List ℕ → List ℕ
bytes_of l = flat (map number_bytes l)

-- "Tape: for each list a count .. and that many times"
unfoldable pub list_numbers : Listed → ℕ → List ℕ
list_numbers l state = l.count ∷ times_of l.source l.count state

abbrev pub times_bytes : Source → ℕ → ℕ → List ℕ
times_bytes s count state = bytes_of (times_of s count state)

-- "The stream runs on through the lists in order."
unfoldable pub tape_numbers : List Listed → ℕ → List ℕ
tape_numbers [] state = []
tape_numbers (l ∷ ls) state = list_numbers l state ++ tape_numbers ls (state_after l.source l.count state)

abbrev pub tape_bytes : List Listed → ℕ → List ℕ
tape_bytes ls state = bytes_of (tape_numbers ls state)

-- the times alone, list by list
unfoldable pub tape_times : List Listed → ℕ → List (List ℕ)
tape_times [] state = []
tape_times (l ∷ ls) state = times_of l.source l.count state ∷ tape_times ls (state_after l.source l.count state)

-- ---- Answers

-- the tape, or the number of the refusal
pub data Making : Type 0 where
  made : List ℕ → Making
  refusal : ℕ → Making

-- "then 43 the tape needs more bytes than were lent"
unfoldable pub fitted : ℕ → List ℕ → Making
fitted room bytes = cond (leb (length bytes) room) (made bytes) (refusal 43)

-- "list by list, 42 a distribution or count outside these rules or a seventeenth"
unfoldable pub from_lists : Option (List Listed) → ℕ → ℕ → Making
from_lists none state room = refusal 42
from_lists (some ls) state room = fitted room (tape_bytes ls state)

-- "after 41"
unfoldable pub from_start : Result ℕ Refusal → Option (List Listed) → ℕ → Making
from_start (Err e) lists room = refusal (refusal_number e)
from_start (Ok state) lists room = from_lists lists state room

unfoldable pub make_tape : (stream : ℕ) → List ℕ → List Float → (room : ℕ) → Making
make_tape stream lists numbers room = from_start (start_of stream) (lists_of lists numbers) room

-- "A refused call writes no byte"; a tape leaves the bytes behind it
unfoldable pub leaves : Making → List ℕ → List ℕ
leaves (made b) before = b ++ drop (length b) before
leaves (refusal n) before = before
