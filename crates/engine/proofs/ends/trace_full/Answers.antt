-- `trace_full` meets its contract, without a sum that may not fit.
use Rattle.machine.specs.All.{ℕ, ◌-◌, ◌+◌, ◌≤◌, ◌<◌, ◌≡◌, refl, sym, ◌∙◌, Bool, true, false, arith, ltb, lt-ltb, le-ltb, ltb-true, ltb-false, record_room}
use Rattle.engine_laws.specs.Ends.{full_rows}
use Rattle.engine.proofs.ends.trace_full.Goals as goal

short : (used room : ℕ) → room < record_room → true ≡ full_rows used room
unfolding full_rows
short used room h = sym (lt-ltb room (used + record_room) (omega arith))

aside : (used room : ℕ) → record_room ≤ room → ltb (room - record_room) used ≡ full_rows used room
unfolding full_rows
aside used room h = go (ltb (room - record_room) used) refl
  where
    go : (t : Bool) → ltb (room - record_room) used ≡ t → ltb (room - record_room) used ≡ ltb room (used + record_room)
    go true e = e ∙ sym (lt-ltb room (used + record_room) (omega (arith, ltb-true (room - record_room) used e)))
    go false e = e ∙ sym (le-ltb room (used + record_room) (omega (arith, ltb-false (room - record_room) used e)))

pub returns-then-room-lt-RECORD_ROOM : goal.returns-then-room-lt-RECORD_ROOM
returns-then-room-lt-RECORD_ROOM c =
    lt-ltb _ 12 c.if-room-lt-RECORD_ROOM.true ∙ short _ _ c.if-room-lt-RECORD_ROOM.true

pub returns-else-room-lt-RECORD_ROOM : goal.returns-else-room-lt-RECORD_ROOM
returns-else-room-lt-RECORD_ROOM c = aside _ _ c.if-room-lt-RECORD_ROOM.false
