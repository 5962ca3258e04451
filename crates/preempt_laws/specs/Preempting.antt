-- The row machine: 19 PREEMPT and 20 RETURN (document 02, item 11). The one from whom a facility was taken stands on the facility's list of
-- interrupted ones, with its remaining ticks in the place of its move time.
use Rattle.std.specs.Prelude.{◌+◌, ◌-◌}
use Rattle.machine.specs.All.{ℕ, Bool, false, cond, List, ltb, eqb}
use Rattle.rows_laws.specs.All.{number_field, interrupted, row_count, read, priority_of, time_of, set_time, put, first, take_first, cancel, find_loser}
use Rattle.state.specs.{declared.scalars.Scalars.Scalars, All.Rows, All.rows_of}
use Rattle.moves.specs.Motion.{Moved, stopped}
use Rattle.flow_laws.specs.{Sending.plus64, Sending.to_future, Questions.ask_time}
use Rattle.servers_laws.specs.Units.{server_at, in_use, holder, preempted, capacity}
use Rattle.servers_laws.specs.{Taking.hold_units, Taking.take_units, Freeing.free_one}

-- ---- PREEMPT

-- in use, and not by PREEMPT
unfoldable pub seized : List ℕ → (v : ℕ) → Bool
seized tally v = cond (eqb (preempted tally v) 0) (ltb 0 (in_use tally v)) false

-- row j of the FEL is interrupted, with its remaining ticks kept
unfoldable pub interrupt_on : List ℕ → (clock v j : ℕ) → List ℕ
interrupt_on w clock v j = put (set_time (cancel w j) j (time_of w j - clock)) (interrupted + v) j

-- the facility is taken from it
unfoldable pub take_over : List ℕ → List ℕ → List ℕ → Scalars → (v j number : ℕ) → Rows
take_over tables w tally x v j number =
    hold_units (interrupt_on w x.clock v j) tally x v (in_use tally v) number x.moving 1 (capacity tables v)

-- "a holder of lower priority that stands on the FEL" loses it; else PREEMPT waits
unfoldable pub preempt_seized : List ℕ → List ℕ → List ℕ → Scalars → (v number : ℕ) → Rows
preempt_seized tables w tally x v number =
    let j : ℕ = find_loser w (holder tally v) (priority_of w x.moving) x.moving v in
    cond (ltb j row_count) (take_over tables w tally x v j number) (take_units tables w tally x v 1 number 1)

unfoldable pub preempt_rows : List ℕ → List ℕ → List ℕ → Scalars → ℕ → Rows
preempt_rows tables w tally x at =
    let v : ℕ = server_at tables (at + 1) in
    let number : ℕ = read w number_field x.moving in
    cond (seized tally v) (preempt_seized tables w tally x v number) (take_units tables w tally x v 1 number 1)

-- ---- RETURN

-- row j, or none, goes on at the clock plus its remaining ticks
unfoldable pub ask_resume : List ℕ → Scalars → (j : ℕ) → ℕ
ask_resume w x j = cond (ltb j row_count) (ask_time x (time_of w j)) 0

-- "RETURN of a seized one and RETURN by another end with 27. RETURN of an idle one ends with 24", and 22 is "asked after 27"
unfoldable pub ask_give_back : List ℕ → List ℕ → Scalars → (v number : ℕ) → ℕ
ask_give_back w tally x v number =
    cond (ltb (in_use tally v) 1) 24
    (cond (eqb (preempted tally v) 0) 27
    (cond (eqb (holder tally v) number) (ask_resume w x (first w (interrupted + v))) 27))

-- row j, the interrupted one, goes to the FEL
unfoldable pub resume_on : List ℕ → Scalars → (v j : ℕ) → Moved
resume_on w x v j = to_future (take_first w (interrupted + v)) x j (plus64 x.clock (time_of w j))

-- and has the facility again
unfoldable pub resume_rows : List ℕ → List ℕ → List ℕ → Scalars → (v j : ℕ) → Rows
resume_rows tables w tally x v j =
    hold_units (resume_on w x v j).work tally (resume_on w x v j).scalars v (in_use tally v) (read w number_field j) j 0 (capacity tables v)

-- "if there is none, it acts as RELEASE"
unfoldable pub give_back_now : List ℕ → List ℕ → List ℕ → Scalars → (v : ℕ) → Rows
give_back_now tables w tally x v =
    let j : ℕ = first w (interrupted + v) in
    cond (ltb j row_count) (resume_rows tables w tally x v j) (free_one tables w tally x v (in_use tally v - 1))

unfoldable pub give_back_rows : List ℕ → List ℕ → List ℕ → Scalars → ℕ → Rows
give_back_rows tables w tally x at =
    let v : ℕ = server_at tables (at + 1) in
    let end : ℕ = ask_give_back w tally x v (read w number_field x.moving) in
    cond (eqb end 0) (give_back_now tables w tally x v) (rows_of (stopped x end) w tally)
