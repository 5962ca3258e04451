-- Document 02, item 10, "Traces by column": the bytes of both forms, and which traces and columns are taken.
use Rattle.std.specs.Prelude.{◌+◌, ◌-◌, ◌&&◌, ◌∷◌, ◌++◌}
use Rattle.machine.specs.All.{ℕ, zero, suc, Bool, true, cond, List, [], map, Option, none, some, leb, length, in_force, max_clock, max_transaction, max_blocks, number_bytes, Parser, Parsed, parsed, refused, ◌>>=◌, ◌>>◌, give, times, at_end, beginning, Record, trace_bytes_lem, Reading, taken, refusal, no_more, trace_field, read_record, Writing, written, rejected}

-- "up to 100,000,000 records"
abbrev pub max_records : ℕ
max_records = 100000000

-- ---- "Write all clocks as differences from the clock before (0 at first), then all transactions, then blocks, then outcomes,
-- preceded by the record count; numbers as in the trace."

abbrev pub clocks : List Record → List ℕ
clocks l = map (λ r. r.clock) l

abbrev pub transactions : List Record → List ℕ
transactions l = map (λ r. r.transaction) l

abbrev pub blocks : List Record → List ℕ
blocks l = map (λ r. r.block) l

abbrev pub outcomes : List Record → List ℕ
outcomes l = map (λ r. r.outcome) l

unfoldable pub differences : (before : ℕ) → List ℕ → List ℕ
differences before [] = []
differences before (c ∷ l) = (c - before) ∷ differences c l

-- the bytes of numbers, one after the other
unfoldable pub column : List ℕ → List ℕ
column [] = []
column (v ∷ l) = number_bytes v ++ column l

unfoldable pub column_bytes : List Record → List ℕ
column_bytes l =
    number_bytes (length l) ++ column (differences 0 (clocks l)) ++ column (transactions l) ++ column (blocks l) ++ column (outcomes l)

-- ---- "A trace is taken if the reader takes it whole up to 100,000,000 records and its clocks never fall."

unfoldable pub never_fall : (before : ℕ) → List ℕ → Bool
never_fall before [] = true
never_fall before (c ∷ l) = leb before c && never_fall c l

unfoldable pub behind : Record → Option (List Record) → Option (List Record)
behind r none = none
behind r (some l) = some (r ∷ l)

-- the records from what the reader answers on, at most n of them, up to "no more"
unfoldable pub whole_from : ℕ → List ℕ → Reading → Option (List Record)
whole_from zero s (taken r next) = none
whole_from zero s (refusal n) = none
whole_from zero s no_more = some []
whole_from (suc n) s (taken r next) = behind r (whole_from n s (read_record in_force s next))
whole_from (suc n) s (refusal k) = none
whole_from (suc n) s no_more = some []

unfoldable pub rising : Option (List Record) → Option (List Record)
rising none = none
rising (some l) = cond (never_fall 0 (clocks l)) (some l) none

unfoldable pub taken_trace : List ℕ → Option (List Record)
taken_trace s = rising (whole_from max_records s (read_record in_force s 0))

-- ---- "Column bytes are taken exactly if some such trace produces them": this reads them; that it does so is shown (Claims.antt).

-- the records of four columns
unfoldable pub rows : (clocks transactions blocks outcomes : List ℕ) → List Record
rows [] ts bs os = []
rows (c ∷ cs) [] bs os = []
rows (c ∷ cs) (t ∷ ts) [] os = []
rows (c ∷ cs) (t ∷ ts) (b ∷ bs) [] = []
rows (c ∷ cs) (t ∷ ts) (b ∷ bs) (o ∷ os) =
    record { clock = c; transaction = t; block = b; outcome = o } ∷ rows cs ts bs os

-- Numbers are read as in the trace, each in its range by the reader's `trace_field`; whatever it refuses is 51 here.
module _ (s : List ℕ) where
  -- n clocks behind one; no sum passes the clock limit
  unfoldable pub clocks_from : ℕ → (before : ℕ) → Parser (List ℕ)
  clocks_from zero before = give []
  clocks_from (suc n) before = do
    difference ← trace_field in_force s 0 (max_clock - before)
    l ← clocks_from n (before + difference)
    give ((before + difference) ∷ l)

  unfoldable pub column_fields : Parser (List Record)
  column_fields = do
    count ← trace_field in_force s 0 max_records
    cs ← clocks_from count 0
    ts ← times count (trace_field in_force s 1 max_transaction)
    bs ← times count (trace_field in_force s 1 max_blocks)
    os ← times count (trace_field in_force s 0 1)
    at_end s 31
    give (rows cs ts bs os)

unfoldable pub records_of : Parsed (List Record) → Option (List Record)
records_of (parsed l c) = some l
records_of (refused n) = none

unfoldable pub taken_columns : List ℕ → Option (List Record)
taken_columns s = records_of (column_fields s beginning)

-- ---- "Answers: 51 not such a trace, or not such columns; then 52 the output needs more bytes than were lent."

unfoldable pub answer : (List Record → List ℕ) → (room : ℕ) → Option (List Record) → Writing
answer bytes room none = rejected 51
answer bytes room (some l) = cond (leb (length (bytes l)) room) (written (bytes l)) (rejected 52)

unfoldable pub to_columns : (trace : List ℕ) (room : ℕ) → Writing
to_columns trace room = answer column_bytes room (taken_trace trace)

unfoldable pub from_columns : (columns : List ℕ) (room : ℕ) → Writing
from_columns columns room = answer trace_bytes_lem room (taken_columns columns)
