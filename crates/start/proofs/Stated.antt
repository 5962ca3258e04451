-- The scalars at the start of a run are stated.
use Rattle.std.specs.Prelude.{◌+◌, ◌*◌}
use Rattle.machine.specs.All.{ℕ, zero, suc, min, refl, List, arith, eqb, get_or, max_blocks, max_lists}
use Rattle.constants.specs.declared.model.Model.{Model}
use Rattle.layout.specs.All.{block_width}
use Rattle.rows_laws.specs.All.{initial}
use Rattle.state.specs.{Notes.Stated, All.Rows, All.rows_of}
use Rattle.state.proofs.Stated.{if-rows}
use Rattle.flow_laws.specs.{Samples.next_sample}
use Rattle.flow_laws.proofs.Stated.{arrives-stated}
use Rattle.start.specs.Start.{lists_set, start_scalars, spent_at, priority_at, begin_list, begin_block, begin_blocks, start_rows}

scalars-stated : (counter : ℕ) → Stated (start_scalars counter)
unfolding start_scalars
scalars-stated counter = record { end = refl; note = omega arith }

module _ (tables tape : List ℕ) where
  begin-list-stated : (r : Rows) (b : ℕ) → Stated r.scalars → Stated (begin_list tables tape r b).scalars
  unfolding begin_list
  begin-list-stated r b h =
      if-rows (spent_at tables r.tally b) r _ h
      (arrives-stated h r.work r.tally (next_sample tape r.tally (get_or tables (block_width * b + 1) 0))
      (get_or tables (block_width * b + 1) 0) (priority_at tables b) (b + 1))

  begin-block-stated : (r : Rows) (b : ℕ) → Stated r.scalars → Stated (begin_block tables tape r b).scalars
  unfolding begin_block
  begin-block-stated r b h =
      if-rows (eqb (get_or tables (block_width * b) 0) 1) (begin_list tables tape r b) r (begin-list-stated r b h) h

  begin-blocks-stated : (n : ℕ) (r : Rows) (b : ℕ) → Stated r.scalars → Stated (begin_blocks n tables tape r b).scalars
  unfolding begin_blocks
  begin-blocks-stated zero r b h = h
  begin-blocks-stated (suc n) r b h = begin-blocks-stated n (begin_block tables tape r b) (suc b) (begin-block-stated r b h)

  -- what `begin` leaves
  pub start-stated : (model : Model) (lists w tally : List ℕ) → Stated (start_rows model tables tape lists w tally).scalars
  unfolding start_rows rows_of
  start-stated model lists w tally =
      begin-blocks-stated (min model.blocks max_blocks)
      (rows_of (start_scalars model.counter) (initial w) (lists_set max_lists lists tally)) 0
      (scalars-stated model.counter)
