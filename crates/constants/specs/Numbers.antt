-- The numbers that the documents give to refusals, ends and kinds.
use Rattle.std.specs.Prelude.{ℕ, ◌≡◌, Option, MatchOption}
use Rattle.constants.specs.{declared.refusals.Refusal.Refusal, declared.refusals.Text.Text, declared.ends.End.End, declared.kinds.Kind.Kind}
use Rattle.constants.specs.declared.refusals.Refusal.TheVariants.{ShortWork, ShortReport, ModelNumber, ModelRange, LargeValue, ModelGoesOn, IllFormed, TapeNumber, TapeRange, TapeGoesOn, TraceNumber, TraceRange, RecordRoom, NoStream, ListRules, TapeRoom, NoColumns, ColumnsRoom, NotJoinable, JoinRoom}
use Rattle.constants.specs.declared.refusals.Text.TheVariants.{Model, Tape, Trace}
use Rattle.constants.specs.declared.ends.End.TheVariants.{Dry, Counted, Budget, TraceFull, NoPlace, TooLate, NoTime, NotInUse, NoContent, WornOut, NotHolder, Holding}
use Rattle.constants.specs.declared.kinds.Kind.TheVariants.{Generate, Advance, Terminate, Seize, Release, Enter, Leave, WaitServer, WaitTerms, Branch, Goto, Assign, Priority, Split, Arrive, Depart, JoinedWait, Assemble, Preempt, Return}

abbrev pub refusal_number : Refusal → ℕ
refusal_number ShortWork = 1
refusal_number ShortReport = 2
refusal_number ModelNumber = 3
refusal_number ModelRange = 4
refusal_number LargeValue = 5
refusal_number ModelGoesOn = 6
refusal_number IllFormed = 7
refusal_number TapeNumber = 8
refusal_number TapeRange = 9
refusal_number TapeGoesOn = 10
refusal_number TraceNumber = 31
refusal_number TraceRange = 32
refusal_number RecordRoom = 33
refusal_number NoStream = 41
refusal_number ListRules = 42
refusal_number TapeRoom = 43
refusal_number NoColumns = 51
refusal_number ColumnsRoom = 52
refusal_number NotJoinable = 61
refusal_number JoinRoom = 62

-- "a number that is not whole, not shortest or not in size", and the next for one out of range
abbrev pub malformed : Text → Refusal
malformed Model = ModelNumber
malformed Tape = TapeNumber
malformed Trace = TraceNumber

abbrev pub out_of_range : Text → Refusal
out_of_range Model = ModelRange
out_of_range Tape = TapeRange
out_of_range Trace = TraceRange

abbrev pub end_number : End → ℕ
end_number Dry = 1
end_number Counted = 2
end_number Budget = 3
end_number TraceFull = 4
end_number NoPlace = 21
end_number TooLate = 22
end_number NoTime = 23
end_number NotInUse = 24
end_number NoContent = 25
end_number WornOut = 26
end_number NotHolder = 27
end_number Holding = 28

abbrev pub kind_number : Kind → ℕ
kind_number Generate = 1
kind_number Advance = 2
kind_number Terminate = 3
kind_number Seize = 4
kind_number Release = 5
kind_number Enter = 6
kind_number Leave = 7
kind_number WaitServer = 8
kind_number WaitTerms = 9
kind_number Branch = 10
kind_number Goto = 11
kind_number Assign = 12
kind_number Priority = 13
kind_number Split = 14
kind_number Arrive = 15
kind_number Depart = 16
kind_number JoinedWait = 17
kind_number Assemble = 18
kind_number Preempt = 19
kind_number Return = 20

-- the kind of a number, if it has one
abbrev pub Names : ℕ → Option Kind → Type 0
Names n found = MatchOption found ((k : Kind) → kind_number k ≡ n → ⊥) (λ k. kind_number k ≡ n)
