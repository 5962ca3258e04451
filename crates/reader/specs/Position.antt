-- Where a trace reader stands after a call.
use Rattle.machine.specs.All.{ℕ, List, in_force, Reading, taken, refusal, no_more, read_record}
use Rattle.std.specs.Prelude.{Option, Some, None, Result, Ok, Err, ◌≡◌, refl}
use Rattle.constants.specs.{declared.refusals.Refusal.Refusal, Numbers.refusal_number}
use Rattle.trace.specs.declared.Record.{Record}
use Rattle.trace.specs.Answers.{entry_of, reading_of}
use Rattle.reader.specs.declared.Reader.{Reader}

-- an answer of the reader whose refusals have numbers
abbrev pub reading_by : {E : Type 0} → (E → ℕ) → Result (Option (Record × ℕ)) E → Reading
reading_by number (Ok (Some x)) = taken (entry_of x.0) x.1
reading_by number (Ok None) = no_more
reading_by number (Err r) = refusal (number r)

-- by the numbers of the documents it is the answer of `trace`
pub by-paper : (x : Result (Option (Record × ℕ)) Refusal) → reading_by refusal_number x ≡ reading_of x
by-paper (Ok (Some x)) = refl
by-paper (Ok None) = refl
by-paper (Err r) = refl

-- "A refusal leaves the position."
unfoldable pub position_behind : ℕ → Reading → ℕ
position_behind at (taken r next) = next
position_behind at (refusal n) = at
position_behind at no_more = at

-- the position after the record at a position
unfoldable pub position_after : List ℕ → ℕ → ℕ
position_after s at = position_behind at (read_record in_force s at)

-- the reader after a call: the same bytes, and that position
unfoldable pub moved : Reader → Reader
moved r = record { bytes = r.bytes; at = position_after r.bytes.now r.at }
