-- What the answers of this crate say in the paper's terms. The contracts use these.
use Rattle.std.specs.Prelude.{◌++◌, Option, Some, None, Result, Ok, Err}
use Rattle.machine.specs.All.{ℕ, List, length, take, drop}
use Rattle.machine.specs.Trace as machine
use Rattle.constants.specs.{declared.refusals.Refusal.Refusal, Numbers.refusal_number}
use Rattle.trace.specs.declared.Record.{Record}

-- the four numbers of a record
abbrev pub entry : ℕ → ℕ → ℕ → ℕ → machine.Record
entry clock transaction block outcome = record { clock = clock; transaction = transaction; block = block; outcome = outcome }

abbrev pub entry_of : Record → machine.Record
entry_of r = entry r.clock r.transaction r.block r.outcome

-- ---- Reader: a record and the position after it, the number of the refusal, or "no more"

abbrev pub reading_of : Result (Option (Record × ℕ)) Refusal → machine.Reading
reading_of (Ok (Some x)) = machine.taken (entry_of x.0) x.1
reading_of (Ok None) = machine.no_more
reading_of (Err r) = machine.refusal (refusal_number r)

-- ---- Writer: the bytes that now begin the rest, or the number of the refusal

abbrev pub writing_of : List ℕ → Result ℕ Refusal → machine.Writing
writing_of rest (Ok n) = machine.written (take n rest)
writing_of rest (Err r) = machine.rejected (refusal_number r)

-- the rest afterwards: the bytes of the record and what stood behind them; "a refusal writes nothing"
unfoldable pub after : machine.Writing → List ℕ → List ℕ
after (machine.written b) rest = b ++ drop (length b) rest
after (machine.rejected n) rest = rest
