-- The row machine: the five kinds. `at` is where the block stands in the tables; its operands follow its kind.
use Rattle.std.specs.Prelude.{◌+◌, ◌*◌, ◌-◌, ◌%◌}
use Rattle.machine.specs.All.{ℕ, zero, suc, cond, List, eqb, leb, get_or}
use Rattle.layout.specs.All.{list_left}
use Rattle.rows_laws.specs.All.{number_field, standing_field, next_field, row_count, read, write, free_row}
use Rattle.state.specs.declared.scalars.Scalars.{Scalars}
use Rattle.state.specs.All.{put_counter, put_moving, put_ended, put_end, put_note, Rows, rows_of}
use Rattle.moves.specs.Motion.{Moved, moved, with_tally, next32, go_on_lem, stopped}
use Rattle.flow_laws.specs.{declared.samples.Sample.Sample, Samples.next_sample, Samples.use_time}
use Rattle.flow_laws.specs.Sending.{priorities, plus64, to_future, to_ready, arrives, copy_one}
use Rattle.flow_laws.specs.Questions.{ask_room, ask_time, ask_arrival, ask_holding}

-- the row that moved is on a list: nobody moves
unfoldable pub parked : Moved → Moved
parked m = moved (put_moving row_count m.scalars) m.work

-- ---- 1 GENERATE list, priority

-- the transaction goes on, and a new one comes
unfoldable pub arrive_on : List ℕ → List ℕ → Scalars → Sample → (list priority : ℕ) → Rows
arrive_on w tally x sample list priority =
    arrives (go_on_lem w x).work tally (go_on_lem w x).scalars sample list priority (read w next_field x.moving)

unfoldable pub generate_with : Sample → List ℕ → List ℕ → Scalars → (list priority : ℕ) → Rows
generate_with sample w tally x list priority =
    cond (eqb (ask_arrival x sample.time) 0) (arrive_on w tally x sample list priority)
    (rows_of (stopped x (ask_arrival x sample.time)) w tally)

unfoldable pub generate_next : List ℕ → List ℕ → List ℕ → Scalars → (list priority : ℕ) → Rows
generate_next tape w tally x list priority = generate_with (next_sample tape tally list) w tally x list priority

unfoldable pub generate_rows : (tables tape : List ℕ) → List ℕ → List ℕ → Scalars → (at : ℕ) → Rows
generate_rows tables tape w tally x at =
    cond (eqb (get_or tally (list_left + get_or tables (at + 1) 0) 0) 0)
    (with_tally (go_on_lem w x) tally)
    (generate_next tape w tally x (get_or tables (at + 1) 0) (get_or tables (at + 2) 0))

-- ---- 2 ADVANCE list

unfoldable pub send_on : List ℕ → Scalars → (time : ℕ) → Moved
send_on w x time = parked (to_future (go_on_lem w x).work (go_on_lem w x).scalars x.moving time)

unfoldable pub delay_rows : List ℕ → List ℕ → Scalars → Sample → (list : ℕ) → Rows
delay_rows w tally x sample list = with_tally (send_on w x (plus64 x.clock sample.time)) (use_time tally list sample.next)

unfoldable pub advance_with : Sample → List ℕ → List ℕ → Scalars → (list : ℕ) → Rows
advance_with sample w tally x list =
    cond (eqb (ask_time x sample.time) 0) (delay_rows w tally x sample list) (rows_of (stopped x (ask_time x sample.time)) w tally)

unfoldable pub advance_next : List ℕ → List ℕ → List ℕ → Scalars → (list : ℕ) → Rows
advance_next tape w tally x list = advance_with (next_sample tape tally list) w tally x list

unfoldable pub advance_rows : (tables tape : List ℕ) → List ℕ → List ℕ → Scalars → (at : ℕ) → Rows
advance_rows tables tape w tally x at =
    cond (eqb (get_or tally (list_left + get_or tables (at + 1) 0) 0) 0)
    (rows_of (stopped x 23) w tally)
    (advance_next tape w tally x (get_or tables (at + 1) 0))

-- ---- 3 TERMINATE a

unfoldable pub end_one : Scalars → ℕ → Scalars
end_one x a =
    put_note 0 (put_end (cond (leb x.counter a) 2 0) (put_counter (x.counter - a) (put_ended (next32 x.ended) (put_moving row_count x))))

unfoldable pub terminate_rows : (tables : List ℕ) → (facilities : ℕ) → List ℕ → List ℕ → Scalars → (at : ℕ) → Moved
terminate_rows tables facilities w tally x at =
    let end : ℕ = ask_holding tally facilities (read w number_field x.moving) in
    cond (eqb end 0) (moved (end_one x (get_or tables (at + 1) 0)) (free_row w x.moving)) (moved (stopped x end) w)

-- ---- 13 PRIORITY p

unfoldable pub rank_on : List ℕ → Scalars → ℕ → Moved
rank_on w x p = parked (to_ready (write (go_on_lem w x).work standing_field x.moving (p % priorities * 2)) (go_on_lem w x).scalars x.moving)

unfoldable pub priority_rows : (tables : List ℕ) → List ℕ → Scalars → (at : ℕ) → Moved
priority_rows tables w x at = rank_on w x (get_or tables (at + 1) 0)

-- ---- 14 SPLIT n, target

unfoldable pub copies_of : ℕ → List ℕ → Scalars → (target : ℕ) → Moved
copies_of zero w x target = moved x w
copies_of (suc n) w x target = copies_of n (copy_one w x target).work (copy_one w x target).scalars target

unfoldable pub split_on : List ℕ → Scalars → (n target : ℕ) → Moved
split_on w x n target = copies_of n (go_on_lem w x).work (go_on_lem w x).scalars target

unfoldable pub split_rows : (tables : List ℕ) → List ℕ → Scalars → (at : ℕ) → Moved
split_rows tables w x at =
    cond (eqb (ask_room x (get_or tables (at + 1) 0)) 0)
    (split_on w x (get_or tables (at + 1) 0) (get_or tables (at + 2) 0))
    (moved (stopped x (ask_room x (get_or tables (at + 1) 0))) w)
