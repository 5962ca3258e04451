-- The row machine: the taking of a turn.
use Rattle.std.specs.Prelude.{◌+◌}
use Rattle.machine.specs.All.{ℕ, min, cond, List, ltb, get_or, set}
use Rattle.layout.specs.All.{most32, most64, clock_moves}
use Rattle.rows_laws.specs.All.{rel, fel, row_count, serial_end, time_of, first, take_first, Arrived, arrive}
use Rattle.state.specs.declared.scalars.Scalars.{Scalars}
use Rattle.state.specs.All.{put_clock, put_moving, put_serial, put_turns, Rows, rows_of}

-- one clock move more; what it means for statistics is found when they are brought up to date
unfoldable pub count_move : List ℕ → List ℕ
count_move tally = set tally clock_moves (min (get_or tally clock_moves 0 + 1) most64)

-- after a move, with the last serial given
abbrev pub moved_to : (time serial : ℕ) → Scalars → Scalars
moved_to time serial x = put_serial serial (put_clock time x)

-- the clock moves to a time
unfoldable pub move_clock : (work tally : List ℕ) → Scalars → (time : ℕ) → Rows
move_clock work tally x time =
    let a : Arrived = arrive row_count time work x.serial in
    rows_of (moved_to time a.serial x) a.rows (count_move tally)

-- the first time of the FEL
abbrev pub first_time : List ℕ → ℕ
first_time work = time_of work (first work fel)

-- to that time, where there is one and serials are left
unfoldable pub next_events : (work tally : List ℕ) → Scalars → Rows
next_events work tally x =
    cond (ltb (first work fel) row_count)
    (cond (ltb x.serial serial_end) (move_clock work tally x (first_time work)) (rows_of x work tally))
    (rows_of x work tally)

-- the first of REL moves, where there is one
unfoldable pub ready_scalars : List ℕ → Scalars → Scalars
ready_scalars work x = cond (ltb (first work rel) row_count) (put_moving (first work rel) x) x

abbrev pub ready_work : List ℕ → List ℕ
ready_work work = take_first work rel

unfoldable pub take_ready : Rows → Rows
take_ready r = rows_of (ready_scalars r.work r.scalars) (ready_work r.work) r.tally

unfoldable pub counted : Scalars → Scalars
counted x = put_turns (min (x.turns + 1) most32) x

-- the moving one, else the first of REL, else after a clock move
unfoldable pub take : (work tally : List ℕ) → Scalars → Rows
take work tally x =
    cond (ltb x.moving row_count) (rows_of (counted x) work tally)
    (take_ready
    (cond (ltb (first work rel) row_count) (rows_of (counted x) work tally) (next_events work tally (counted x))))
