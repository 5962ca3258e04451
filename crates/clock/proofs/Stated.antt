-- Scalars stay stated in the taking of a turn.
use Rattle.machine.specs.All.{ℕ, List, ltb}
use Rattle.rows_laws.specs.All.{rel, fel, row_count, serial_end, first}
use Rattle.state.specs.{declared.scalars.Scalars.Scalars, Notes.Stated, All.Rows, All.rows_of}
use Rattle.state.proofs.Stated.{if-stated, if-rows}
use Rattle.clock.specs.Taking.{move_clock, first_time, next_events, ready_scalars, take_ready, counted, take}

module _ {x : Scalars} (h : Stated x) (work tally : List ℕ) where
  next-events-stated : Stated (next_events work tally x).scalars
  unfolding next_events move_clock rows_of
  next-events-stated =
      if-rows (ltb (first work fel) row_count) _ (rows_of x work tally)
      (if-rows (ltb x.serial serial_end) (move_clock work tally x (first_time work)) (rows_of x work tally)
      (record { end = h.end; note = h.note }) h) h

take-ready-stated : (r : Rows) → Stated r.scalars → Stated (take_ready r).scalars
unfolding take_ready ready_scalars rows_of
take-ready-stated r h =
    if-stated (ltb (first r.work rel) row_count) _ r.scalars (record { end = h.end; note = h.note }) h

counted-stated : {x : Scalars} → Stated x → Stated (counted x)
unfolding counted
counted-stated h = record { end = h.end; note = h.note }

-- who moves is found
pub take-stated : {x : Scalars} → Stated x → (work tally : List ℕ) → Stated (take work tally x).scalars
unfolding take rows_of
take-stated {x = x} h work tally =
    if-rows (ltb x.moving row_count) (rows_of (counted x) work tally) _ (counted-stated h)
    (take-ready-stated _
    (if-rows (ltb (first work rel) row_count) (rows_of (counted x) work tally) (next_events work tally (counted x))
    (counted-stated h) (next-events-stated (counted-stated h) work tally)))
