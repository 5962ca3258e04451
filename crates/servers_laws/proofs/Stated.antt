-- Scalars stay stated in the blocks of this crate.
use Rattle.std.specs.Prelude.{◌+◌, ◌-◌}
use Rattle.machine.specs.All.{ℕ, refl, Bool, List, ltb, leb, eqb, get_or, max_back}
use Rattle.layout.specs.All.{edition}
use Rattle.rows_laws.specs.All.{number_field, read, keep_holder, wake_first}
use Rattle.state.specs.{declared.scalars.Scalars.Scalars, Notes.NoneOrEnd, Notes.Stated, All.rows_of}
use Rattle.state.proofs.Stated.{if-end, if-rows}
use Rattle.moves.specs.Motion.{go_on_lem, wait_on, stopped}
use Rattle.moves.proofs.Stated.{if-moved, go-on-stated, go-back-stated, wait-on-stated, stopped-stated}
use Rattle.servers_laws.specs.Units.{server_at, in_use, holder, preempted, capacity}
use Rattle.servers_laws.specs.Waking.{check_wels}
use Rattle.servers_laws.specs.Taking.{hold_units, queue_up, take_units, seize_rows, enter_rows}
use Rattle.servers_laws.specs.Freeing.{enter_freed, free_one, free_some, ask_release, release_rows, leave_rows}
use Rattle.servers_laws.specs.WaitServer.{back_of, begins_from, is_late, back_from, stamp_on, pass_on, pass_or_back}
use Rattle.servers_laws.specs.WaitServer.{wait_while, wait_server_rows}

-- 24, then 27
pub release-end : (units taken who number : ℕ) → NoneOrEnd (ask_release units taken who number)
unfolding ask_release
release-end units taken who number =
    if-end (ltb units 1) 24 _ refl (if-end (eqb taken 0) _ 27 (if-end (eqb who number) 0 27 refl refl) refl)

module _ {x : Scalars} (h : Stated x) (w tally : List ℕ) where
  module _ (v : ℕ) where
    -- it enters, and holds units
    pub hold-units-stated : (units who k preempts all : ℕ) → Stated (hold_units w tally x v units who k preempts all).scalars
    unfolding hold_units rows_of
    hold-units-stated units who k preempts all = go-on-stated h (check_wels (keep_holder w v k) v units all)

    -- it takes units or queues up
    pub take-units-stated : (tables : List ℕ) (b who preempts : ℕ) → Stated (take_units tables w tally x v b who preempts).scalars
    unfolding take_units queue_up rows_of
    take-units-stated tables b who preempts =
        if-rows (leb b (capacity tables v - in_use tally v))
        (hold_units w tally x v (in_use tally v + b) who x.moving preempts (capacity tables v))
        (queue_up w tally x v (get_or tables edition 0))
        (hold-units-stated (in_use tally v + b) who x.moving preempts (capacity tables v)) (wait-on-stated h w v (get_or tables edition 0))

    -- a unit is given back
    pub free-one-stated : (tables : List ℕ) (units : ℕ) → Stated (free_one tables w tally x v units).scalars
    unfolding free_one enter_freed rows_of
    free-one-stated tables units = go-on-stated h (check_wels (wake_first w v) v units (capacity tables v))

    free-some-stated : (tables : List ℕ) (units b : ℕ) → Stated (free_some tables w tally x v units b).scalars
    unfolding free_some enter_freed rows_of
    free-some-stated tables units b = go-on-stated h _

  module _ (tables : List ℕ) (at : ℕ) where
    abbrev v : ℕ
    v = server_at tables (at + 1)

    -- SEIZE
    pub seize-stated : Stated (seize_rows tables w tally x at).scalars
    unfolding seize_rows
    seize-stated = take-units-stated v tables 1 (read w number_field x.moving) 0

    -- ENTER
    pub enter-stated : Stated (enter_rows tables w tally x at).scalars
    unfolding enter_rows
    enter-stated = take-units-stated v tables (get_or tables (at + 2) 0) 0 0

    -- RELEASE
    pub release-stated : Stated (release_rows tables w tally x at).scalars
    unfolding release_rows rows_of
    release-stated =
        let end : ℕ = ask_release (in_use tally v) (preempted tally v) (holder tally v) (read w number_field x.moving) in
        if-rows (eqb end 0) (free_one tables w tally x v (in_use tally v - 1)) (rows_of (stopped x end) w tally)
        (free-one-stated v tables (in_use tally v - 1)) (stopped-stated h end (release-end _ _ _ _))

    -- LEAVE
    pub leave-stated : Stated (leave_rows tables w tally x at).scalars
    unfolding leave_rows rows_of
    leave-stated =
        let b : ℕ = get_or tables (at + 2) 0 in
        if-rows (ltb (in_use tally v) b) (rows_of (stopped x 24) w tally) (free_some tables w tally x v (in_use tally v - b) b)
        (stopped-stated h 24 refl) (free-some-stated v tables (in_use tally v - b) b)

-- ---- WAITIF on a server

module _ {x : Scalars} (h : Stated x) (tables w : List ℕ) (at p : ℕ) where
  pass-on-stated : (begins : Bool) → Stated (pass_on w x p begins).scalars
  unfolding pass_on stamp_on
  pass-on-stated begins =
      if-moved begins (stamp_on (wake_first w p) x) (go_on_lem (wake_first w p) x) (go-on-stated h _) (go-on-stated h (wake_first w p))

  pass-or-back-stated : Stated (pass_or_back tables w x at p).scalars
  unfolding pass_or_back back_from
  pass-or-back-stated =
      let begins : Bool = begins_from tables (at + 8) 1 max_back in
      if-moved (is_late w x (back_of tables at)) (back_from w x p (back_of tables at)) (pass_on w x p begins)
      (go-back-stated h (wake_first w p) (back_of tables at)) (pass-on-stated begins)

  wait-while-stated : (holds : Bool) → Stated (wait_while tables w x at p holds).scalars
  unfolding wait_while
  wait-while-stated holds =
      if-moved holds (wait_on w x p (get_or tables edition 0)) (pass_or_back tables w x at p)
      (wait-on-stated h w p (get_or tables edition 0)) pass-or-back-stated

-- kinds 8 and 17
pub wait-server-stated : {x : Scalars} → Stated x → (tables w tally : List ℕ) (at : ℕ)
    → Stated (wait_server_rows tables w tally x at).scalars
unfolding wait_server_rows
wait-server-stated h tables w tally at = wait-while-stated h tables w at _ _
