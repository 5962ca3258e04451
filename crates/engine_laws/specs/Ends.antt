-- The row machine: the end before a turn, from scalars and work buffer.
use Rattle.std.specs.Prelude.{◌+◌, ◌||◌}
use Rattle.machine.specs.All.{ℕ, Bool, false, cond, List, ltb, leb, eqb, max_serial, max_turns, record_room}
use Rattle.rows_laws.specs.All.{rel, fel, row_count, first}
use Rattle.state.specs.declared.scalars.Scalars.{Scalars}

-- nobody moves, and REL and FEL have no first row
unfoldable pub nobody_rows : List ℕ → ℕ → Bool
nobody_rows work moving = cond (ltb moving row_count) false (cond (ltb (first work rel) row_count) false (leb row_count (first work fel)))

-- "Last serial given above 99,997,952, or 100,000,000 turns done"
unfoldable pub worn_rows : Scalars → Bool
worn_rows x = ltb max_serial x.serial || leb max_turns x.turns

-- "Fewer than 12 bytes left in the trace"
unfoldable pub full_rows : (used room : ℕ) → Bool
full_rows used room = ltb room (used + record_room)

-- the limits on serials and turns, the budget and the room for a record
unfoldable pub limit_rows : Scalars → (budget room : ℕ) → ℕ
limit_rows x budget room =
    cond (worn_rows x) 26
    (cond (leb budget x.turns) 3
    (cond (full_rows x.used room) 4
    0))

-- the number of the end before the next turn, 0 for none
unfoldable pub end_rows : List ℕ → Scalars → (budget room : ℕ) → ℕ
end_rows work x budget room =
    cond (eqb x.end 0) (cond (nobody_rows work x.moving) 1 (limit_rows x budget room)) x.end
