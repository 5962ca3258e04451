-- What is claimed of the definitions of item 10, as one statement (proved in ../proofs/Item10.antt).
use Rattle.std.specs.Prelude.{◌≤◌, ◌<◌, ◌≡◌}
use Rattle.machine.specs.All.{ℕ, true, List, some, length, get_or, in_force, Record, trace_bytes_lem, written, rejected, outcome}
use Rattle.trace.specs.Whole.{Reads}
use Rattle.columns_laws.specs.Columns.{max_records, clocks, column_bytes, never_fall, taken_trace, taken_columns, to_columns, from_columns}

-- every element is a byte, as those of a lent slice are
abbrev pub Bytes : List ℕ → Type 0
Bytes l = (i : ℕ) → get_or l i 0 < 256

-- "A trace is taken if the reader takes it whole up to 100,000,000 records and its clocks never fall."
pub record Such (trace : List ℕ) (l : List Record) : Type 0 where
  pub whole : Reads trace 0 l
  pub count : length l ≤ max_records
  pub clocks : never_fall 0 (clocks l) ≡ true

-- a trace that produces these columns
pub record Produces (columns : List ℕ) (l : List Record) : Type 0 where
  pub trace : List ℕ
  pub bytes : Bytes trace
  pub such : Such trace l
  pub produced : column_bytes l ≡ columns

pub record Item10 : Type 0 where
  pub traces : (s : List ℕ) (l : List Record) → (taken_trace s ≡ some l → Such s l) × (Such s l → taken_trace s ≡ some l)
  -- "Column bytes are taken exactly if some such trace produces them."
  pub columns : (s : List ℕ) (l : List Record) → (Bytes s → taken_columns s ≡ some l → Produces s l)
      × (Produces s l → taken_columns s ≡ some l)
  -- "An inverse gives back the trace", and the columns of what comes back are the columns
  pub inverse : (trace columns : List ℕ) (room back : ℕ) → Bytes trace → to_columns trace room ≡ written columns → length trace ≤ back →
      from_columns columns back ≡ written trace
  pub inverse-back : (columns trace : List ℕ) (room back : ℕ) → Bytes columns → from_columns columns back ≡ written trace
      → length columns ≤ room →
      to_columns trace room ≡ written columns
  -- "51 not such a trace, or not such columns", whatever was lent; "then 52 the output needs more bytes than were lent"
  pub not-such-trace : (s : List ℕ) (room : ℕ) → ((l : List Record) → Such s l → ⊥) → to_columns s room ≡ rejected 51
  pub columns-room : (s : List ℕ) (l : List Record) (room : ℕ) → Such s l → room < length (column_bytes l) → to_columns s room ≡ rejected 52
  pub not-such-columns : (s : List ℕ) (room : ℕ) → Bytes s → ((l : List Record) → Produces s l → ⊥) → from_columns s room ≡ rejected 51
  pub trace-room : (s : List ℕ) (l : List Record) (room : ℕ) → Produces s l → room < length (trace_bytes_lem l)
      → from_columns s room ≡ rejected 52
  -- every trace that a run writes is taken, whatever the bytes of model and tape
  pub runs : (model tape : List ℕ) (budget work room report : ℕ)
      → (l : List Record) × Such (outcome in_force model tape budget work room report).trace l
