-- Scalars stay stated in the blocks of this crate: each question answers 0 or an end of the list.
use Rattle.std.specs.Prelude.{◌+◌, ◌*◌, ◌-◌, ◌%◌}
use Rattle.machine.specs.All.{ℕ, zero, suc, refl, Bool, List, arith, eqb, ltb, leb, length, get_or, max_living, max_clock}
use Rattle.layout.specs.All.{list_left, residues, held, tally_size}
use Rattle.rows_laws.specs.All.{number_field, standing_field, next_field, family_field, free, row_count, load, read, write}
use Rattle.rows_laws.specs.All.{take_first, first, family_cell, free_row}
use Rattle.state.specs.{declared.scalars.Scalars.Scalars, Notes.NoneOrEnd, Notes.Stated, All.rows_of}
use Rattle.state.proofs.Stated.{if-end, if-stated, if-rows}
use Rattle.moves.specs.Motion.{Moved, moved, with_tally, in_order_lem, next32, go_on_lem, stopped}
use Rattle.moves.proofs.Stated.{if-moved, go-on-stated, begin-wait-stated, stopped-stated}
use Rattle.flow_laws.specs.{declared.samples.Sample.Sample, Samples.next_sample}
use Rattle.flow_laws.specs.Questions.{ask_room, ask_time, first_no, ask_arrival, held_by, ask_holding}
use Rattle.flow_laws.specs.Sending.{priorities, plus32, plus64, to_future, to_ready, one_made, born_at, born, arrives, copy_to, copy_one}
use Rattle.flow_laws.specs.Kinds.{parked, arrive_on, generate_with, generate_next, generate_rows, send_on, delay_rows, advance_with}
use Rattle.flow_laws.specs.Kinds.{advance_next, advance_rows, end_one, terminate_rows, rank_on, priority_rows, copies_of, split_on, split_rows}
use Rattle.flow_laws.specs.Gathering.{list_at_lem, gather_on, release_on, end_on, count_on, later_rows, gather_rows, assemble_rows}

-- ---- Questions

-- 21
pub room-end : (x : Scalars) (n : ℕ) → NoneOrEnd (ask_room x n)
unfolding ask_room
room-end x n = if-end (leb (plus32 (x.made - x.ended) n) max_living) 0 21 refl refl

-- 22
pub time-end : (x : Scalars) (time : ℕ) → NoneOrEnd (ask_time x time)
unfolding ask_time
time-end x time = if-end (leb (plus64 x.clock time) max_clock) 0 22 refl refl

-- 21, then 22
pub arrival-end : (x : Scalars) (time : ℕ) → NoneOrEnd (ask_arrival x time)
unfolding ask_arrival first_no
arrival-end x time = if-end (eqb (ask_room x 1) 0) (ask_time x time) (ask_room x 1) (time-end x time) (room-end x 1)

-- 28
pub holding-end : (tally : List ℕ) (facilities number : ℕ) → NoneOrEnd (ask_holding tally facilities number)
unfolding ask_holding
holding-end tally facilities number =
    if-end (ltb (length tally) tally_size) 0 _ refl
    (if-end (eqb (get_or tally (held + number % residues) 0) 0) 0 _ refl
    (if-end (eqb (held_by tally facilities number) 0) 0 28 refl refl))

-- ---- Rows sent to the FEL and to REL, and new ones

parked-stated : (m : Moved) → Stated m.scalars → Stated (parked m).scalars
unfolding parked moved
parked-stated m g = record { end = g.end; note = g.note }

module _ {x : Scalars} (h : Stated x) where
  -- one more was made, or none
  pub made-stated : (made : Bool) → Stated (one_made x made)
  unfolding one_made
  made-stated made = if-stated made _ x (record { end = h.end; note = h.note }) h

  module _ (w : List ℕ) where
    -- a row goes to the FEL
    pub to-future-stated : (k time : ℕ) → Stated (to_future w x k time).scalars
    unfolding to_future moved
    to-future-stated k time = record { end = h.end; note = h.note }

    -- and to REL
    pub to-ready-stated : (k : ℕ) → Stated (to_ready w x k).scalars
    unfolding to_ready moved
    to-ready-stated k = record { end = h.end; note = h.note }

    born-at-stated : (k time priority block : ℕ) → Stated (born_at w x k time priority block).scalars
    unfolding born_at to_future moved
    born-at-stated k time priority block = record { end = h.end; note = h.note }

    copy-to-stated : (k target : ℕ) → Stated (copy_to w x k target).scalars
    unfolding copy_to to_ready moved
    copy-to-stated k target = record { end = h.end; note = h.note }

module _ {x : Scalars} (h : Stated x) (w : List ℕ) where
  born-stated : (time priority block : ℕ) → Stated (born w x time priority block).scalars
  unfolding born moved
  born-stated time priority block =
      if-moved (ltb (first w free) row_count) (born_at (take_first w free) x (first w free) time priority block)
      (moved x (take_first w free))
      (born-at-stated h (take_first w free) (first w free) time priority block) h

  -- a new transaction comes, if a row is free
  pub arrives-stated : (tally : List ℕ) (sample : Sample) (list priority block : ℕ)
      → Stated (arrives w tally x sample list priority block).scalars
  unfolding arrives rows_of
  arrives-stated tally sample list priority block = born-stated (plus64 x.clock sample.time) priority block

  copy-one-stated : (target : ℕ) → Stated (copy_one w x target).scalars
  unfolding copy_one moved
  copy-one-stated target =
      if-moved (ltb (first w free) row_count) (copy_to (take_first w free) x (first w free) target) (moved x (take_first w free))
      (copy-to-stated h (take_first w free) (first w free) target) h

copies-stated : (n : ℕ) (w : List ℕ) (x : Scalars) (target : ℕ) → Stated x → Stated (copies_of n w x target).scalars
unfolding copies_of moved
copies-stated zero w x target h = h
copies-stated (suc n) w x target h =
    copies-stated n (copy_one w x target).work (copy_one w x target).scalars target (copy-one-stated h w target)

-- ---- Kinds 1 and 2

module _ {x : Scalars} (h : Stated x) (tables tape w tally : List ℕ) where
  module _ (sample : Sample) (list : ℕ) where
    arrive-on-stated : (priority : ℕ) → Stated (arrive_on w tally x sample list priority).scalars
    unfolding arrive_on
    arrive-on-stated priority =
        arrives-stated (go-on-stated h w) (go_on_lem w x).work tally sample list priority (read w next_field x.moving)

    generate-with-stated : (priority : ℕ) → Stated (generate_with sample w tally x list priority).scalars
    unfolding generate_with rows_of
    generate-with-stated priority =
        if-rows (eqb (ask_arrival x sample.time) 0) (arrive_on w tally x sample list priority)
        (rows_of (stopped x (ask_arrival x sample.time)) w tally)
        (arrive-on-stated priority) (stopped-stated h (ask_arrival x sample.time) (arrival-end x sample.time))

    delay-stated : Stated (delay_rows w tally x sample list).scalars
    unfolding delay_rows send_on rows_of
    delay-stated =
        parked-stated (to_future (go_on_lem w x).work (go_on_lem w x).scalars x.moving (plus64 x.clock sample.time))
        (to-future-stated (go-on-stated h w) (go_on_lem w x).work x.moving (plus64 x.clock sample.time))

    advance-with-stated : Stated (advance_with sample w tally x list).scalars
    unfolding advance_with rows_of
    advance-with-stated =
        if-rows (eqb (ask_time x sample.time) 0) (delay_rows w tally x sample list)
        (rows_of (stopped x (ask_time x sample.time)) w tally)
        delay-stated (stopped-stated h (ask_time x sample.time) (time-end x sample.time))

  module _ (at : ℕ) where
    abbrev list : ℕ
    list = get_or tables (at + 1) 0

    -- GENERATE
    pub generate-stated : Stated (generate_rows tables tape w tally x at).scalars
    unfolding generate_rows generate_next rows_of
    generate-stated =
        if-rows (eqb (get_or tally (list_left + list) 0) 0) (with_tally (go_on_lem w x) tally)
        (generate_next tape w tally x list (get_or tables (at + 2) 0))
        (go-on-stated h w) (generate-with-stated (next_sample tape tally list) list (get_or tables (at + 2) 0))

    -- ADVANCE
    pub advance-stated : Stated (advance_rows tables tape w tally x at).scalars
    unfolding advance_rows advance_next rows_of
    advance-stated =
        if-rows (eqb (get_or tally (list_left + list) 0) 0) (rows_of (stopped x 23) w tally) (advance_next tape w tally x list)
        (stopped-stated h 23 refl) (advance-with-stated (next_sample tape tally list) list)

-- ---- Kinds 3, 13 and 14

module _ {x : Scalars} (h : Stated x) (tables w : List ℕ) (at : ℕ) where
  end-one-stated : (a : ℕ) → Stated (end_one x a)
  unfolding end_one
  end-one-stated a = record { end = if-end (leb x.counter a) 2 0 refl refl; note = omega arith }

  -- TERMINATE
  pub terminate-stated : (facilities : ℕ) (tally : List ℕ) → Stated (terminate_rows tables facilities w tally x at).scalars
  unfolding terminate_rows moved
  terminate-stated facilities tally =
      let end : ℕ = ask_holding tally facilities (read w number_field x.moving) in
      if-moved (eqb end 0) (moved (end_one x (get_or tables (at + 1) 0)) (free_row w x.moving)) (moved (stopped x end) w)
      (end-one-stated (get_or tables (at + 1) 0))
      (stopped-stated h end (holding-end tally facilities (read w number_field x.moving)))

  -- PRIORITY
  pub priority-stated : Stated (priority_rows tables w x at).scalars
  unfolding priority_rows rank_on
  priority-stated =
      let ranked : List ℕ = write (go_on_lem w x).work standing_field x.moving (get_or tables (at + 1) 0 % priorities * 2) in
      parked-stated (to_ready ranked (go_on_lem w x).scalars x.moving) (to-ready-stated (go-on-stated h w) ranked x.moving)

  -- SPLIT
  pub split-stated : Stated (split_rows tables w x at).scalars
  unfolding split_rows split_on moved
  split-stated =
      let n : ℕ = get_or tables (at + 1) 0 in
      let target : ℕ = get_or tables (at + 2) 0 in
      if-moved (eqb (ask_room x n) 0) (split_on w x n target) (moved (stopped x (ask_room x n)) w)
      (copies-stated n (go_on_lem w x).work (go_on_lem w x).scalars target (go-on-stated h w))
      (stopped-stated h (ask_room x n) (room-end x n))

-- ---- Kind 18

module _ {x : Scalars} (h : Stated x) where
  end-on-stated : (w : List ℕ) (k : ℕ) → Stated (end_on w x k).scalars
  unfolding end_on moved
  end-on-stated w k = record { end = h.end; note = omega arith }

module _ {x : Scalars} (h : Stated x) (w : List ℕ) (n p c : ℕ) where
  release-on-stated : (j : ℕ) → Stated (release_on w x p c j).scalars
  unfolding release_on
  release-on-stated j = to-ready-stated h _ j

  count-on-stated : (j come : ℕ) → Stated (count_on w x n p c j come).scalars
  unfolding count_on
  count-on-stated j come =
      if-moved (eqb come n) (end_on (release_on w x p c j).work (release_on w x p c j).scalars x.moving)
      (end_on (write w next_field j come) x x.moving)
      (end-on-stated (release-on-stated j) (release_on w x p c j).work x.moving) (end-on-stated h (write w next_field j come) x.moving)

  later-stated : (facilities : ℕ) (tally : List ℕ) (j : ℕ) → Stated (later_rows facilities w tally x n p c j).scalars
  unfolding later_rows moved
  later-stated facilities tally j =
      let end : ℕ = ask_holding tally facilities (read w number_field x.moving) in
      if-moved (eqb end 0) (count_on w x n p c j (next32 (read w next_field j))) (moved (stopped x end) w)
      (count-on-stated j (next32 (read w next_field j)))
      (stopped-stated h end (holding-end tally facilities (read w number_field x.moving)))

  gather-stated : (facilities : ℕ) (tally : List ℕ) → Stated (gather_rows facilities w tally x n p c).scalars
  unfolding gather_rows gather_on
  gather-stated facilities tally =
      if-moved (ltb (load w c) row_count) (later_rows facilities w tally x n p c (load w c)) (gather_on w x p)
      (later-stated facilities tally (load w c)) (begin-wait-stated h (write w next_field x.moving 1) p in_order_lem)

-- ASSEMBLE
pub assemble-stated : {x : Scalars} → Stated x → (tables : List ℕ) (facilities : ℕ) (w tally : List ℕ) (at : ℕ)
    → Stated (assemble_rows tables facilities w tally x at).scalars
unfolding assemble_rows
assemble-stated {x = x} h tables facilities w tally at =
    let p : ℕ = list_at_lem w x.moving in
    gather-stated h w (get_or tables (at + 1) 0) p (family_cell w p (read w family_field x.moving)) facilities tally
