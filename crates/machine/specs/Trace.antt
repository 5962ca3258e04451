-- Bytes, "Trace record: clock, transaction, block, outcome (0 entered, 1 began to wait)", the trace reader and the record writer.
use Rattle.std.specs.Prelude.{◌&&◌, ◌∷◌, ◌++◌}
use Rattle.machine.specs.Basics.{ℕ, Bool, cond, List, [], ltb, leb, length}
use Rattle.machine.specs.{Limits.max_transaction, Limits.max_blocks, Rules.Rules, Number.number_bytes}
use Rattle.machine.specs.Parser.{Parser, Parsed, parsed, refused, ◌>>=◌, give, field_up_to}

pub record Record : Type 0 where
  pub clock : ℕ
  pub transaction : ℕ
  pub block : ℕ
  pub outcome : ℕ

unfoldable pub record_bytes : Record → List ℕ
record_bytes r =
    number_bytes r.clock ++ number_bytes r.transaction ++ number_bytes r.block ++ number_bytes r.outcome

-- the bytes of records in the order of writing
unfoldable pub trace_bytes_lem : List Record → List ℕ
trace_bytes_lem [] = []
trace_bytes_lem (r ∷ l) = record_bytes r ++ trace_bytes_lem l

-- ---- Questions, "Trace reader: a position at or past the end answers "no more". Else, number by number .. 31. .. 32"

-- What the reader answers: a record and the position after it, a refusal, or "no more".
pub data Reading : Type 0 where
  taken : Record → ℕ → Reading
  refusal : ℕ → Reading
  no_more : Reading

-- one number of a record
abbrev pub trace_field : Rules → List ℕ → (lo hi : ℕ) → Parser ℕ
trace_field r s lo hi = field_up_to r.max_number s 31 lo hi

unfoldable pub record_fields : Rules → List ℕ → Parser Record
record_fields r s = do
  clock ← trace_field r s 0 r.max_clock
  transaction ← trace_field r s 1 max_transaction
  block ← trace_field r s 1 max_blocks
  outcome ← trace_field r s 0 1
  give (record { clock = clock; transaction = transaction; block = block; outcome = outcome })

unfoldable pub reading : Parsed Record → Reading
reading (parsed r c) = taken r c.position
reading (refused n) = refusal n

unfoldable pub read_record : Rules → List ℕ → ℕ → Reading
read_record r s at =
    cond (ltb at (length s)) (reading (record_fields r s (record { position = at; numbers = 0; mentions = 0 }))) no_more

-- ---- Questions, "Record writer: the same ranges? 32. Then: do its bytes fit in the rest? 33. A refusal writes nothing."

unfoldable pub in_ranges : Rules → Record → Bool
in_ranges rules r =
    leb r.clock rules.max_clock && (leb 1 r.transaction && leb r.transaction max_transaction)
    && (leb 1 r.block && leb r.block max_blocks) && leb r.outcome 1

-- What the writer answers: the bytes that now begin the rest, or a refusal.
pub data Writing : Type 0 where
  written : List ℕ → Writing
  rejected : ℕ → Writing

-- writing a record into a rest of `room` bytes
unfoldable pub write_record : Rules → ℕ → Record → Writing
write_record rules room r =
    cond (in_ranges rules r) (cond (leb (length (record_bytes r)) room) (written (record_bytes r)) (rejected 33)) (rejected 32)
