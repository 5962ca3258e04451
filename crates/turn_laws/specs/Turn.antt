-- The row machine: a whole turn over scalars, work buffer, tally and trace buffer.
use Rattle.std.specs.Prelude.{◌+◌, ◌*◌, ◌-◌}
use Rattle.machine.specs.All.{ℕ, Bool, true, false, cond, not, List, ltb, eqb, get_or, max_blocks}
use Rattle.constants.specs.declared.model.Model.{Model}
use Rattle.layout.specs.Layout as Layout
use Rattle.rows_laws.specs.All.{number_field, next_field, row_count, read}
use Rattle.state.specs.{declared.scalars.Scalars.Scalars, All.Rows, All.rows_of}
use Rattle.clock.specs.Taking.{take}
use Rattle.values_queues_laws.specs.Scheme.{ws_scheme}
use Rattle.blocks.specs.Execute.{execute}
use Rattle.turn_laws.specs.Note.{Noted, note_record}

pub record Traced : Type 0 where
  pub rows : Rows
  pub trace : List ℕ

unfoldable pub traced : Rows → List ℕ → Traced
traced r trace = record { rows = r; trace = trace }

-- the note of the record, where a block left these rows
unfoldable pub with_note : Rows → List ℕ → (number block : ℕ) → Traced
with_note r trace number block =
    let n : Noted = note_record r.tally trace r.scalars number block in traced (rows_of n.scalars r.work n.tally) n.trace

module _ (tables : List ℕ) (values facilities : ℕ) (tape w tally trace : List ℕ) (x : Scalars) where
  unfoldable pub act : (number block : ℕ) → Traced
  act number block =
      cond (ltb (block - 1) max_blocks)
      (with_note (execute tables values facilities tape w tally x (Layout.block_width * (block - 1))) trace number block)
      (traced (rows_of x w tally) trace)

  unfoldable pub act_moving : Traced
  act_moving =
      cond (ltb x.moving row_count) (act (read w number_field x.moving) (read w next_field x.moving))
      (traced (rows_of x w tally) trace)

-- has the clock moved, and does a WAITIF on a comparison read it?
unfoldable pub clock_asks : List ℕ → (before after : ℕ) → Bool
clock_asks tables before after = cond (eqb before after) false (not (eqb (get_or tables Layout.clock_asked 0) 0))

-- the block that row k stands before, 0 where k is no row
unfoldable pub next_of : List ℕ → ℕ → ℕ
next_of w k = cond (ltb k row_count) (read w next_field k) 0

-- are those on the WSL asked again after the turn, of the clock before and after it and the block of whoever moved? Not if none of them
-- reads what that block changes.
unfoldable pub asks : (tables : List ℕ) (before after block : ℕ) → Bool
asks tables before after block =
    cond (clock_asks tables before after) true
    (cond (ltb (block - 1) max_blocks) (not (eqb (get_or tables (Layout.asked + (block - 1)) 0) 0)) true)

unfoldable pub scheme_if : Bool → (tables : List ℕ) (blocks values : ℕ) (tally : List ℕ) → Scalars → List ℕ → List ℕ
scheme_if b tables blocks values tally x w = cond b (ws_scheme tables blocks values tally x w) w

-- the WS scheme after a block, where they are asked
unfoldable pub with_scheme : Bool → (tables : List ℕ) (blocks values : ℕ) → Traced → Traced
with_scheme b tables blocks values a =
    traced (rows_of a.rows.scalars (scheme_if b tables blocks values a.rows.tally a.rows.scalars a.rows.work)
    a.rows.tally) a.trace

-- the block of whoever moves, and the WS scheme; of the clock before the taking
unfoldable pub after_taking : (tables : List ℕ) (blocks values facilities : ℕ) (tape trace : List ℕ) (before : ℕ) → Rows → Traced
after_taking tables blocks values facilities tape trace before r =
    let a : Traced = act_moving tables values facilities tape r.work r.tally trace r.scalars in
    with_scheme (asks tables before a.rows.scalars.clock (next_of r.work r.scalars.moving)) tables blocks values a

unfoldable pub turn : Model → (tables tape w tally trace : List ℕ) → Scalars → Traced
turn model tables tape w tally trace x =
    after_taking tables model.blocks model.values model.facilities tape trace x.clock (take w tally x)
