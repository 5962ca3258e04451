-- What calls of `next` answer, one after the other, and what they leave.
use Rattle.std.specs.Prelude.{◌+◌, ◌∷◌, ◌++◌, ◌≡◌}
use Rattle.machine.specs.All.{ℕ, zero, suc, List, [], map, Option, none, some, length, replicate, in_force, Record, Reading, taken, refusal, no_more, read_record}
use Rattle.trace.specs.Whole.{Reads}
use Rattle.reader.specs.{declared.Reader.Reader, Position.moved}

unfoldable pub answer : Reader → Reading
answer r = read_record in_force r.bytes.now r.at

-- the answers of n calls
unfoldable pub answers : ℕ → Reader → List Reading
answers zero r = []
answers (suc n) r = answer r ∷ answers n (moved r)

unfoldable pub record_in : Reading → Option Record
record_in (taken x next) = some x
record_in (refusal n) = none
record_in no_more = none

-- "keeps the lent bytes and its position between records": a whole trace is read record by record, and none is read then
abbrev pub ReadsAlong : Reader → List Record → Type 0
ReadsAlong r l =
    Reads r.bytes.now r.at l → (k : ℕ) → map record_in (answers (length l + k) r) ≡ map some l ++ replicate k none

-- "A refusal leaves the position", and so does "no more"
abbrev pub Stays : Reader → Type 0
Stays r = record_in (answer r) ≡ none → moved r ≡ r
