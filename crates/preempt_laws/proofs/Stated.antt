-- Scalars stay stated in PREEMPT and RETURN.
use Rattle.std.specs.Prelude.{◌+◌, ◌-◌}
use Rattle.machine.specs.All.{ℕ, refl, List, ltb, eqb}
use Rattle.rows_laws.specs.All.{number_field, interrupted, row_count, read, priority_of, time_of, first, take_first, find_loser}
use Rattle.state.specs.{declared.scalars.Scalars.Scalars, Notes.NoneOrEnd, Notes.Stated, All.rows_of}
use Rattle.state.proofs.Stated.{if-end, if-rows}
use Rattle.moves.specs.Motion.{stopped}
use Rattle.moves.proofs.Stated.{stopped-stated}
use Rattle.flow_laws.specs.{Sending.plus64, Questions.ask_time}
use Rattle.flow_laws.proofs.Stated.{time-end, to-future-stated}
use Rattle.servers_laws.specs.Units.{server_at, in_use, holder, preempted, capacity}
use Rattle.servers_laws.specs.{Taking.take_units, Freeing.free_one}
use Rattle.servers_laws.proofs.Stated.{hold-units-stated, take-units-stated, free-one-stated}
use Rattle.preempt_laws.specs.Preempting.{seized, interrupt_on, take_over, preempt_seized, preempt_rows}
use Rattle.preempt_laws.specs.Preempting.{ask_resume, ask_give_back, resume_on, resume_rows, give_back_now, give_back_rows}

resume-end : (w : List ℕ) (x : Scalars) (j : ℕ) → NoneOrEnd (ask_resume w x j)
unfolding ask_resume
resume-end w x j = if-end (ltb j row_count) (ask_time x (time_of w j)) 0 (time-end x (time_of w j)) refl

give-back-end : (w tally : List ℕ) (x : Scalars) (v number : ℕ) → NoneOrEnd (ask_give_back w tally x v number)
unfolding ask_give_back
give-back-end w tally x v number =
    if-end (ltb (in_use tally v) 1) 24 _ refl
    (if-end (eqb (preempted tally v) 0) 27 _ refl
    (if-end (eqb (holder tally v) number) _ 27 (resume-end w x (first w (interrupted + v))) refl))

module _ {x : Scalars} (h : Stated x) (tables w tally : List ℕ) where
  module _ (v : ℕ) where
    preempt-seized-stated : (number : ℕ) → Stated (preempt_seized tables w tally x v number).scalars
    unfolding preempt_seized take_over
    preempt-seized-stated number =
        let j : ℕ = find_loser w (holder tally v) (priority_of w x.moving) x.moving v in
        if-rows (ltb j row_count) (take_over tables w tally x v j number) (take_units tables w tally x v 1 number 1)
        (hold-units-stated h (interrupt_on w x.clock v j) tally v (in_use tally v) number x.moving 1 (capacity tables v))
        (take-units-stated h w tally v tables 1 number 1)

    give-back-now-stated : Stated (give_back_now tables w tally x v).scalars
    unfolding give_back_now resume_rows resume_on
    give-back-now-stated =
        let j : ℕ = first w (interrupted + v) in
        if-rows (ltb j row_count) (resume_rows tables w tally x v j) (free_one tables w tally x v (in_use tally v - 1))
        (hold-units-stated (to-future-stated h (take_first w (interrupted + v)) j (plus64 x.clock (time_of w j)))
        (resume_on w x v j).work tally v (in_use tally v) (read w number_field j) j 0 (capacity tables v))
        (free-one-stated h w tally v tables (in_use tally v - 1))

  module _ (at : ℕ) where
    abbrev v : ℕ
    v = server_at tables (at + 1)

    -- PREEMPT
    pub preempt-stated : Stated (preempt_rows tables w tally x at).scalars
    unfolding preempt_rows
    preempt-stated =
        let number : ℕ = read w number_field x.moving in
        if-rows (seized tally v) (preempt_seized tables w tally x v number) (take_units tables w tally x v 1 number 1)
        (preempt-seized-stated v number) (take-units-stated h w tally v tables 1 number 1)

    -- RETURN
    pub give-back-stated : Stated (give_back_rows tables w tally x at).scalars
    unfolding give_back_rows rows_of
    give-back-stated =
        let end : ℕ = ask_give_back w tally x v (read w number_field x.moving) in
        if-rows (eqb end 0) (give_back_now tables w tally x v) (rows_of (stopped x end) w tally)
        (give-back-now-stated v) (stopped-stated h end (give-back-end w tally x v (read w number_field x.moving)))
