-- The row machine: the record of a block in the trace buffer, and the count of its entries or waits.
use Rattle.std.specs.Prelude.{◌+◌, ◌-◌, ◌++◌}
use Rattle.machine.specs.All.{ℕ, min, cond, List, ltb, leb, eqb, length, get_or, set, take, drop, in_force, Writing, written, rejected, write_record}
use Rattle.layout.specs.All.{waits, most64}
use Rattle.trace.specs.Answers.{entry}
use Rattle.state.specs.{declared.scalars.Scalars.Scalars, All.put_used}

-- how many bytes of the trace buffer are used, and the buffer
pub record Bytes : Type 0 where
  pub used : ℕ
  pub trace : List ℕ

unfoldable pub bytes : ℕ → List ℕ → Bytes
bytes used trace = record { used = used; trace = trace }

unfoldable pub appended : List ℕ → ℕ → Writing → Bytes
appended trace used (written b) = bytes (used + length b) (take used trace ++ (b ++ drop (length b) (drop used trace)))
appended trace used (rejected n) = bytes used trace

unfoldable pub append_record : List ℕ → (used clock number block outcome : ℕ) → Bytes
append_record trace used clock number block outcome =
    cond (leb used (length trace)) (appended trace used (write_record in_force (length (drop used trace)) (entry clock number block outcome)))
    (bytes used trace)

unfoldable pub cell_of : (block outcome : ℕ) → ℕ
cell_of block outcome = cond (eqb outcome 0) (block - 1) (waits + (block - 1))

unfoldable pub count_record : List ℕ → (block outcome : ℕ) → List ℕ
count_record tally block outcome =
    set tally (cell_of block outcome) (min (get_or tally (cell_of block outcome) 0 + 1) most64)

-- the scalars, the tally and the trace buffer
pub record Noted : Type 0 where
  pub scalars : Scalars
  pub tally : List ℕ
  pub trace : List ℕ

unfoldable pub noted : Scalars → (tally trace : List ℕ) → Noted
noted x tally trace = record { scalars = x; tally = tally; trace = trace }

-- the record that the scalars say, by a transaction that stood before a block
unfoldable pub note_record : (tally trace : List ℕ) → Scalars → (number block : ℕ) → Noted
note_record tally trace x number block =
    let b : Bytes = append_record trace x.used x.clock number block x.note in
    cond (ltb x.note 2) (noted (put_used b.used x) (count_record tally block x.note) b.trace) (noted x tally trace)
