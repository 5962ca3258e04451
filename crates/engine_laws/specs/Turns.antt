-- The row machine: the turns of a run.
use Rattle.std.specs.Prelude.{◌-◌, ◌≡◌}
use Rattle.machine.specs.All.{ℕ, true, min, List, max_turns, steps}
use Rattle.constants.specs.declared.model.Model.{Model}
use Rattle.state.specs.{declared.scalars.Scalars.Scalars, All.put_end, All.put_turns, All.rows_of}
use Rattle.rows_laws.specs.All.{row_count}
use Rattle.turn_laws.specs.{Turn.Traced, Turn.traced, Turn.turn, Staying.quiet, Staying.all_wait}
use Rattle.engine_laws.specs.{Ends.end_rows, Steps.run_steps}

unfoldable pub end_of : (budget room : ℕ) → Traced → ℕ
end_of budget room a = end_rows a.rows.work a.rows.scalars budget room

unfoldable pub close_rows : ℕ → Traced → Traced
close_rows e a = traced (rows_of (put_end e a.rows.scalars) a.rows.work a.rows.tally) a.trace

unfoldable pub turn_rows : Model → (tables tape : List ℕ) → Traced → Traced
turn_rows model tables tape a = turn model tables tape a.rows.work a.rows.tally a.trace a.rows.scalars

abbrev pub turns_from : Model → (tables tape : List ℕ) → (budget room n : ℕ) → Traced → Traced
turns_from model tables tape budget room n a = run_steps (end_of budget room) (turn_rows model tables tape) close_rows n a

-- all turns of a run, from its start
abbrev pub turns_rows : Model → (tables tape : List ℕ) → (budget room : ℕ) → Traced → Traced
turns_rows model tables tape budget room a = turns_from model tables tape budget room steps a

-- after so many turns, how many steps may follow before the most turns, those of the budget or the steps left are done
unfoldable pub turns_left : (turns budget left : ℕ) → ℕ
turns_left turns budget left = min (min left (max_turns - turns)) (budget - turns)

-- so many steps from scalars x, rows w and a tally are what is left of them from other rows and another tally, after turns that changed no
-- scalar but their number, t then
abbrev pub Onward : Model → (tables tape trace : List ℕ) → (budget room : ℕ) → Scalars
    → (left : ℕ) (w tally : List ℕ) (t : ℕ) (w' tally' : List ℕ) → Type 0
Onward model tables tape trace budget room x left w tally t w' tally' =
    turns_from model tables tape budget room left (traced (rows_of x w tally) trace)
    ≡ turns_from model tables tape budget room (left - (t - x.turns)) (traced (rows_of (put_turns t x) w' tally') trace)

-- for whatever model, tables, tape, tally and trace everybody waits by who comes to a block, after a turn of one that came back
abbrev pub WhereAllWait : (block : ℕ) → Scalars → (Model → (tables tape tally trace : List ℕ) → Type 0) → Type 0
WhereAllWait block x P =
    (model : Model) (tables tape tally trace : List ℕ) → x.moving ≡ row_count → x.note ≡ 2
    → all_wait tables model.values tally x.clock block ≡ true
    → P model tables tape tally trace

-- for whatever model, tape and trace, where an ENTER stands at a block, after a turn of one that came back
abbrev pub WhereEnter : (tables : List ℕ) (block : ℕ) → Scalars → (Model → (tape trace : List ℕ) → Type 0) → Type 0
WhereEnter tables block x P =
    (model : Model) (tape trace : List ℕ) → x.moving ≡ row_count → x.note ≡ 2 → quiet tables 6 block ≡ true → P model tape trace
