-- Scalars stay stated in a turn.
use Rattle.std.specs.Prelude.{◌*◌, ◌-◌}
use Rattle.machine.specs.All.{ℕ, Bool, cond, List, ltb, max_blocks}
use Rattle.machine.proofs.Basic.Bools.{cond_cases}
use Rattle.constants.specs.declared.model.Model.{Model}
use Rattle.layout.specs.Layout as Layout
use Rattle.rows_laws.specs.All.{number_field, next_field, row_count, read}
use Rattle.state.specs.{declared.scalars.Scalars.Scalars, Notes.Stated, All.put_used, All.Rows, All.rows_of}
use Rattle.clock.specs.Taking.{take}
use Rattle.clock.proofs.Stated.{take-stated}
use Rattle.blocks.specs.Execute.{execute}
use Rattle.blocks.proofs.Stated.{execute-stated}
use Rattle.turn_laws.specs.Note.{Bytes, append_record, Noted, noted, count_record, note_record}
use Rattle.turn_laws.specs.Turn.{Traced, traced, with_note, act, act_moving, with_scheme, after_taking, turn}

if-noted : (b : Bool) (m n : Noted) → Stated m.scalars → Stated n.scalars → Stated (cond b m n).scalars
if-noted b m n h g = cond_cases (λ (q : Noted). Stated q.scalars) b m n (λ e. h) (λ e. g)

if-traced : (b : Bool) (a c : Traced) → Stated a.rows.scalars → Stated c.rows.scalars → Stated (cond b a c).rows.scalars
if-traced b a c h g = cond_cases (λ (q : Traced). Stated q.rows.scalars) b a c (λ e. h) (λ e. g)

module _ {x : Scalars} (h : Stated x) (tally trace : List ℕ) (number block : ℕ) where
  -- the record is written, or none
  pub note-record-stated : Stated (note_record tally trace x number block).scalars
  unfolding note_record noted
  note-record-stated =
      let b : Bytes = append_record trace x.used x.clock number block x.note in
      if-noted (ltb x.note 2) (noted (put_used b.used x) (count_record tally block x.note) b.trace) (noted x tally trace)
      (record { end = h.end; note = h.note }) h

with-note-stated : (r : Rows) (trace : List ℕ) (number block : ℕ) → Stated r.scalars → Stated (with_note r trace number block).rows.scalars
unfolding with_note traced rows_of
with-note-stated r trace number block h = note-record-stated h r.tally trace number block

module _ (tables : List ℕ) (values facilities : ℕ) (tape w tally trace : List ℕ) {x : Scalars} (h : Stated x) where
  act-stated : (number block : ℕ) → Stated (act tables values facilities tape w tally trace x number block).rows.scalars
  unfolding act traced rows_of
  act-stated number block =
      let at : ℕ = Layout.block_width * (block - 1) in
      if-traced (ltb (block - 1) max_blocks) (with_note (execute tables values facilities tape w tally x at) trace number block)
      (traced (rows_of x w tally) trace)
      (with-note-stated (execute tables values facilities tape w tally x at) trace number block
      (execute-stated h tables values facilities tape w tally at))
      h

  act-moving-stated : Stated (act_moving tables values facilities tape w tally trace x).rows.scalars
  unfolding act_moving traced rows_of
  act-moving-stated =
      if-traced (ltb x.moving row_count) _ (traced (rows_of x w tally) trace)
      (act-stated (read w number_field x.moving) (read w next_field x.moving)) h

after-taking-stated : (tables : List ℕ) (blocks values facilities : ℕ) (tape trace : List ℕ) (before : ℕ) (r : Rows) → Stated r.scalars
    → Stated (after_taking tables blocks values facilities tape trace before r).rows.scalars
unfolding after_taking with_scheme traced rows_of
after-taking-stated tables blocks values facilities tape trace before r h =
    act-moving-stated tables values facilities tape r.work r.tally trace h

-- a whole turn
pub turn-stated : (model : Model) (tables tape w tally trace : List ℕ) {x : Scalars} → Stated x
    → Stated (turn model tables tape w tally trace x).rows.scalars
unfolding turn
turn-stated model tables tape w tally trace {x = x} h =
    after-taking-stated tables model.blocks model.values model.facilities tape trace x.clock (take w tally x) (take-stated h w tally)
