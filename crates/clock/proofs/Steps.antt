-- What each way through the functions of the taking returns.
use Rattle.machine.specs.All.{ℕ, ◌+◌, min, ◌≤◌, ◌<◌, ◌≡◌, ap, ◌∙◌, List, lt-ltb, le-ltb}
use Rattle.rows_laws.specs.All.{rel, fel, first, Arrived, arrived, arrive}
use Rattle.state.specs.declared.scalars.Scalars.{Scalars}
use Rattle.state.specs.All.{put_turns, put_moving, Rows, rows_of}
use Rattle.clock.specs.{count_move, moved_to, move_clock, first_time, next_events, ready_scalars, ready_work, take_ready, counted, take}

-- the row that is taken moves
pub ready-taken : (w : List ℕ) (x y : Scalars) (k : ℕ) → y ≡ x → k ≡ first w rel → k < 1024 → put_moving k y ≡ ready_scalars w x
unfolding ready_scalars
ready-taken w x y k same e h = rw (same, ← e, lt-ltb k 1024 h)

module _ (w t : List ℕ) (x : Scalars) where
  pub clock-moved : (y : Scalars) (time : ℕ) (w' t' : List ℕ) (serial : ℕ) → y ≡ x → t' ≡ count_move t
      → arrived w' serial ≡ arrive 1024 time w x.serial
      → rows_of (moved_to time serial y) w' t' ≡ move_clock w t x time
  unfolding move_clock rows_of arrived
  clock-moved y time w' t' serial same counts arrives =
      ap (λ (z : Scalars). rows_of (moved_to time serial z) w' t') same
      ∙ ap (λ (l : List ℕ). rows_of (moved_to time serial x) w' l) counts
      ∙ ap (λ (a : Arrived). rows_of (moved_to time a.serial x) a.rows (count_move t)) arrives

  pub events-none : 1024 ≤ first w fel → rows_of x w t ≡ next_events w t x
  unfolding next_events
  events-none h = rw (le-ltb (first w fel) 1024 h)

  -- serials are used up: no clock move
  pub events_spent : first w fel < 1024 → 4000000000 ≤ x.serial → rows_of x w t ≡ next_events w t x
  unfolding next_events
  events_spent h s = rw (lt-ltb (first w fel) 1024 h, le-ltb x.serial 4000000000 s)

  -- else the clock moves to the first later event
  pub events-come : (time : ℕ) (r : Rows) → first w fel < 1024 → x.serial < 4000000000 → time ≡ first_time w
      → r ≡ move_clock w t x time → r ≡ next_events w t x
  unfolding next_events
  events-come time r h s e moves =
      rw (lt-ltb (first w fel) 1024 h, lt-ltb x.serial 4000000000 s) (moves ∙ ap (move_clock w t x) e)

  module _ (n : ℕ) (turns : n ≡ min (x.turns + 1) 4294967295) where
    counts : put_turns n x ≡ counted x
    unfolding counted
    counts = ap (λ (k : ℕ). put_turns k x) turns

    pub take-moving : x.moving < 1024 → rows_of (put_turns n x) w t ≡ take w t x
    unfolding take
    take-moving h = rw (lt-ltb x.moving 1024 h) (ap (λ (y : Scalars). rows_of y w t) counts)

    -- somebody is ready
    pub take-first : (y : Scalars) (w' : List ℕ) → 1024 ≤ x.moving → first w rel < 1024 → y ≡ ready_scalars w (put_turns n x)
        → w' ≡ ready_work w
        → rows_of y w' t ≡ take w t x
    unfolding take take_ready rows_of
    take-first y w' h f ready taken =
        rw (le-ltb x.moving 1024 h, lt-ltb (first w rel) 1024 f)
        (ap (λ (z : Scalars). rows_of z w' t) (ready ∙ ap (ready_scalars w) counts)
        ∙ ap (λ (l : List ℕ). rows_of (ready_scalars w (counted x)) l t) taken)

    -- nobody is: a clock move first
    pub take-later : (z y : Scalars) (w₁ t₁ w' : List ℕ) → 1024 ≤ x.moving → 1024 ≤ first w rel
        → rows_of z w₁ t₁ ≡ next_events w t (put_turns n x)
        → y ≡ ready_scalars w₁ z → w' ≡ ready_work w₁ → rows_of y w' t₁ ≡ take w t x
    unfolding take take_ready rows_of
    take-later z y w₁ t₁ w' h f events ready taken =
        rw (le-ltb x.moving 1024 h, le-ltb (first w rel) 1024 f)
        (ap (λ (z : Scalars). rows_of z w' t₁) ready ∙ ap (λ (l : List ℕ). rows_of (ready_scalars w₁ z) l t₁) taken
        ∙ ap take_ready (events ∙ ap (next_events w t) counts))
