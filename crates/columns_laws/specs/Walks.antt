-- The walks of the code over positions: what each step reads, counts and writes.
use Rattle.std.specs.Prelude.{◌+◌, ◌*◌, ◌-◌, ◌≤◌, ◌∷◌, ◌≡◌}
use Rattle.machine.specs.All.{ℕ, zero, suc, cond, List, [], Option, none, some, ltb, eqb, length, drop, in_force, max_clock, max_number_bytes, five_groups, number_bytes, read_number, Parsed, parsed, refused, Record, trace_bytes_lem, Reading, taken, refusal, no_more, read_record}
use Rattle.machine.specs.Number as bytes
use Rattle.codec.specs.Writing as at
use Rattle.codec.specs.Writing.{put}
use Rattle.trace.specs.declared.Record.{Record as Numbers}
use Rattle.columns_laws.specs.Columns.{max_records, clocks, transactions, blocks, outcomes, differences, column, never_fall, taken_columns}
use Rattle.columns_laws.specs.declared.walk.Walk.{Walk}
use Rattle.std.specs.Prelude.{Some, None, Option as Maybe}

-- ---- A trace, measured: the columns of a walk count bytes

abbrev pub at_start : Walk
at_start = record { at = 0; clock = 0; differences = 0; transactions = 0; blocks = 0; outcomes = 0 }

-- behind so many records no column is longer than nine bytes for each
pub record Short (count : ℕ) (t : Walk) : Type 0 where
  pub few : count ≤ max_records
  pub differences : t.differences ≤ 9 * count
  pub transactions : t.transactions ≤ 9 * count
  pub blocks : t.blocks ≤ 9 * count
  pub outcomes : t.outcomes ≤ 9 * count

unfoldable pub longer : Walk → Record → (next : ℕ) → Walk
longer t r next = record {
  at = next;
  clock = r.clock;
  differences = t.differences + length (number_bytes (r.clock - t.clock));
  transactions = t.transactions + length (number_bytes r.transaction);
  blocks = t.blocks + length (number_bytes r.block);
  outcomes = t.outcomes + length (number_bytes r.outcome);
}

unfoldable pub measuring : (count : ℕ) → Walk → Reading → Maybe (ℕ × Walk)
measuring count t (taken r next) =
    cond (ltb r.clock t.clock) None (cond (eqb count max_records) None (Some (count + 1, longer t r next)))
measuring count t (refusal n) = None
measuring count t no_more = None

-- how many records, and how many bytes in each column
pub record Totals : Type 0 where
  pub count : ℕ
  pub differences : ℕ
  pub transactions : ℕ
  pub blocks : ℕ
  pub outcomes : ℕ

unfoldable pub totals_of : Maybe (ℕ × Walk) → Option Totals
totals_of (Some x) = some (record {
  count = x.0;
  differences = x.1.differences;
  transactions = x.1.transactions;
  blocks = x.1.blocks;
  outcomes = x.1.outcomes;
})
totals_of None = none

-- those of a walk with these records still to come
abbrev pub totalled : (count : ℕ) → Walk → List Record → Totals
totalled count t l = record {
  count = count + length l;
  differences = t.differences + length (column (differences t.clock (clocks l)));
  transactions = t.transactions + length (column (transactions l));
  blocks = t.blocks + length (column (blocks l));
  outcomes = t.outcomes + length (column (outcomes l));
}

unfoldable pub totals : (count : ℕ) → Walk → Option (List Record) → Option Totals
totals count t none = none
totals count t (some l) = cond (never_fall t.clock (clocks l)) (some (totalled count t l)) none

-- ---- Columns, written

-- a walk, and the buffer that it left
pub record Moved : Type 0 where
  pub walk : Walk
  pub bytes : List ℕ

unfoldable pub moved : Walk → List ℕ → Moved
moved t l = record { walk = t; bytes = l }

-- the record and the position behind it; where none is read zeros, at the same place
abbrev pub numbers : ℕ → ℕ → ℕ → ℕ → Numbers
numbers clock transaction block outcome = record { clock = clock; transaction = transaction; block = block; outcome = outcome }

unfoldable pub found_at : (at : ℕ) → Reading → Numbers × ℕ
found_at at (taken r next) = (numbers r.clock r.transaction r.block r.outcome, next)
found_at at (refusal n) = (numbers 0 0 0 0, at)
found_at at no_more = (numbers 0 0 0 0, at)

abbrev pub record_at : List ℕ → ℕ → Numbers × ℕ
record_at s at = found_at at (read_record in_force s at)

-- the numbers of a record at the four positions
unfoldable pub place : Numbers × ℕ → Walk → List ℕ → Moved
place x t out =
    let d : at.Written = put (x.0.clock - t.clock) (at.written t.differences out) in
    let n : at.Written = put x.0.transaction (at.written t.transactions d.bytes) in
    let b : at.Written = put x.0.block (at.written t.blocks n.bytes) in
    let o : at.Written = put x.0.outcome (at.written t.outcomes b.bytes) in
    moved
    (record { at = x.1; clock = x.0.clock; differences = d.at; transactions = n.at; blocks = b.at; outcomes = o.at })
    o.bytes

-- as many records
unfoldable pub place_all : ℕ → List ℕ → Walk → List ℕ → List ℕ
place_all zero s t out = out
place_all (suc n) s t out = let p : Moved = place (record_at s t.at) t out in place_all n s p.walk p.bytes

-- ---- Columns, surveyed

unfoldable pub sized : ℕ → Parsed (List ℕ) → Maybe (ℕ × ℕ)
sized size (parsed l c) = Some (c.position, size + length (column l))
sized size (refused n) = None

unfoldable pub ends : Parsed (List ℕ) → Maybe ℕ
ends (parsed l c) = Some c.position
ends (refused n) = None

-- ---- A trace, written again

unfoldable pub number_or : (at : ℕ) → Option bytes.Number → ℕ × ℕ
number_or at (some n) = (n.value, at + n.size)
number_or at none = (0, at)

abbrev pub number_at : List ℕ → ℕ → ℕ × ℕ
number_at s at = number_or at (read_number max_number_bytes five_groups (drop at s))

unfoldable pub later : (clock difference : ℕ) → ℕ
later clock difference = cond (ltb (max_clock - clock) difference) max_clock (clock + difference)

-- the record at the four positions
unfoldable pub found : List ℕ → Walk → Record
found s t = record {
  clock = later t.clock (number_at s t.differences).0;
  transaction = (number_at s t.transactions).0;
  block = (number_at s t.blocks).0;
  outcome = (number_at s t.outcomes).0;
}

-- behind it, at a position of the trace
unfoldable pub passed : List ℕ → Walk → (at : ℕ) → Walk
passed s t at = record {
  at = at;
  clock = later t.clock (number_at s t.differences).0;
  differences = (number_at s t.differences).1;
  transactions = (number_at s t.transactions).1;
  blocks = (number_at s t.blocks).1;
  outcomes = (number_at s t.outcomes).1;
}

unfoldable pub restore : List ℕ → Walk → List ℕ → Moved
restore s t out =
    let r : Record = found s t in
    let w : at.Written = put r.outcome (put r.block (put r.transaction (put r.clock (at.written t.at out)))) in
    moved (passed s t w.at) w.bytes

unfoldable pub restore_all : ℕ → List ℕ → Walk → List ℕ → List ℕ
restore_all zero s t out = out
restore_all (suc n) s t out = let p : Moved = restore s t out in restore_all n s p.walk p.bytes

-- the records from the four positions on; the position of the trace plays no part
unfoldable pub found_all : ℕ → List ℕ → Walk → List Record
found_all zero s t = []
found_all (suc n) s t = found s t ∷ found_all n s (passed s t t.at)

-- what a survey says of columns
pub record Holds (s : List ℕ) (count : ℕ) (t : Walk) (len : ℕ) : Type 0 where
  pub records : taken_columns s ≡ some (found_all count s t)
  pub size : len ≡ length (trace_bytes_lem (found_all count s t))
  pub at : t.at ≡ 0
  pub clock : t.clock ≡ 0

abbrev pub Surveyed : List ℕ → Maybe (ℕ × Walk × ℕ) → Type 0
Surveyed s (Some x) = Holds s x.0 x.1 x.2
Surveyed s None = taken_columns s ≡ none
