-- Document 02, item 9: "The pick then reads that and no list". What is picked, whereto the clock moves and whether anybody is left are
-- functions of the kept firsts: two buffers that keep the same have the same, whatever else stands in them. A server's first that is woken
-- is the kept one too.
use Rattle.machine.specs.All.{ℕ, ◌<◌, ◌≡◌, refl, Bool, true, false, cond, List, lt-ltb, ltb}
use Rattle.rows_laws.specs.All.{head, rel, fel, row_count, time_of, first, wake_row, wake_at, wake_first}
use Rattle.state.specs.{declared.scalars.Scalars.Scalars, All.Rows, All.rows_of}
use Rattle.clock.specs.Taking.{move_clock, next_events, ready_scalars, take_ready, take}
use Rattle.engine_laws.specs.{nobody_rows}
use Rattle.clock.specs.Taking.{counted}

module _ (w w' tally tally' : List ℕ) (x : Scalars) where
  -- who moves, and all else that the pick leaves in the scalars
  pub pick-reads : first w rel ≡ first w' rel → first w rel < row_count → (take w tally x).scalars ≡ (take w' tally' x).scalars
  unfolding take take_ready ready_scalars rows_of
  pick-reads same some = rw (← same, lt-ltb (first w rel) row_count some) (go (ltb x.moving row_count))
    where
      go : (b : Bool) → (cond {A = Rows} b (rows_of (counted x) w tally) (take_ready (rows_of (counted x) w tally))).scalars
          ≡ (cond {A = Rows} b (rows_of (counted x) w' tally') (take_ready (rows_of (counted x) w' tally'))).scalars
      go true = unfold rows_of in refl
      go false = unfold take_ready ready_scalars rows_of in (rw (← same))

  -- the clock, from the time of the FEL's kept first
  pub move-reads : first w fel ≡ first w' fel → time_of w (first w fel) ≡ time_of w' (first w fel)
      → (next_events w tally x).scalars.clock ≡ (next_events w' tally' x).scalars.clock
  unfolding next_events move_clock rows_of
  move-reads same time = rw (← same, time) (go (ltb (first w fel) row_count) (ltb x.serial 4000000000))
    where
      go : (a b : Bool) → (cond {A = Rows} a (cond b (move_clock w tally x (time_of w' (first w fel))) (rows_of x w tally))
          (rows_of x w tally)).scalars.clock
          ≡ (cond {A = Rows} a (cond b (move_clock w' tally' x (time_of w' (first w fel))) (rows_of x w' tally'))
          (rows_of x w' tally')).scalars.clock
      go true true = unfold move_clock rows_of in refl
      go true false = unfold rows_of in refl
      go false b = unfold rows_of in refl

  -- whether nobody is left: end 1
  pub dry-reads : (moving : ℕ) → first w rel ≡ first w' rel → first w fel ≡ first w' fel → nobody_rows w moving ≡ nobody_rows w' moving
  unfolding nobody_rows
  dry-reads moving ready later = rw (ready, later)

-- whom a list gives to REL where it gives one
pub wake-reads : (w : List ℕ) (p : ℕ) → wake_first w p ≡ cond (ltb (first w p) row_count) (wake_row w p (head p) (first w p)) w
unfolding wake_at
wake-reads w p = refl
