-- The row machine: 18 ASSEMBLE n (document 02, item 8). `at` is where the block stands in the tables. A gatherer's row holds how many of
-- its family have come in the place of its next block.
use Rattle.std.specs.Prelude.{◌+◌, ◌-◌, ◌%◌}
use Rattle.machine.specs.All.{ℕ, cond, List, eqb, ltb, get_or, max_blocks}
use Rattle.rows_laws.specs.All.{number_field, next_field, family_field, gatherers, row_count, load, read, write, set_returning, remove_at, family_cell, free_row}
use Rattle.state.specs.{declared.scalars.Scalars.Scalars, All.put_moving, All.put_ended, All.put_note}
use Rattle.moves.specs.Motion.{Moved, moved, in_order_lem, next32, begin_wait, stopped}
use Rattle.flow_laws.specs.{Sending.to_ready, Questions.ask_holding}

-- the list of gatherers of the block at which row k stands
unfoldable pub list_at_lem : List ℕ → (k : ℕ) → ℕ
list_at_lem w k = gatherers + (read w next_field k - 1) % max_blocks

-- the first of its family begins to wait on list p; it alone has come
unfoldable pub gather_on : List ℕ → Scalars → (p : ℕ) → Moved
gather_on w x p = begin_wait (write w next_field x.moving 1) x p in_order_lem

-- the one that waits, row j of cell c, goes on from the block of the moving one
unfoldable pub release_on : List ℕ → Scalars → (p c j : ℕ) → Moved
release_on w x p c j =
    to_ready (set_returning (write (remove_at w p c) next_field j (next32 (read w next_field x.moving))) j 0) x j

-- a later one, row k, ends, but the counter does not fall
unfoldable pub end_on : List ℕ → Scalars → (k : ℕ) → Moved
end_on w x k = moved (put_note 0 (put_ended (next32 x.ended) (put_moving row_count x))) (free_row w k)

-- so many have come with it
unfoldable pub count_on : List ℕ → Scalars → (n p c j come : ℕ) → Moved
count_on w x n p c j come =
    cond (eqb come n) (end_on (release_on w x p c j).work (release_on w x p c j).scalars x.moving)
    (end_on (write w next_field j come) x x.moving)

unfoldable pub later_rows : (facilities : ℕ) → List ℕ → List ℕ → Scalars → (n p c j : ℕ) → Moved
later_rows facilities w tally x n p c j =
    let end : ℕ = ask_holding tally facilities (read w number_field x.moving) in
    cond (eqb end 0) (count_on w x n p c j (next32 (read w next_field j))) (moved (stopped x end) w)

-- cell c holds the one of its family that waits, or none
unfoldable pub gather_rows : (facilities : ℕ) → List ℕ → List ℕ → Scalars → (n p c : ℕ) → Moved
gather_rows facilities w tally x n p c =
    cond (ltb (load w c) row_count) (later_rows facilities w tally x n p c (load w c)) (gather_on w x p)

unfoldable pub assemble_rows : (tables : List ℕ) → (facilities : ℕ) → List ℕ → List ℕ → Scalars → (at : ℕ) → Moved
assemble_rows tables facilities w tally x at =
    let p : ℕ = list_at_lem w x.moving in
    gather_rows facilities w tally x (get_or tables (at + 1) 0) p (family_cell w p (read w family_field x.moving))
