-- The row machine: ARRIVE and DEPART.
use Rattle.std.specs.Prelude.{◌+◌, ◌-◌, ◌%◌}
use Rattle.machine.specs.All.{ℕ, min, cond, List, eqb, get_or, set, max_queues}
use Rattle.layout.specs.Layout as Layout
use Rattle.state.specs.{declared.scalars.Scalars.Scalars, All.update_queue, All.Rows, All.rows_of}
use Rattle.moves.specs.Motion.{go_on_lem, with_tally, stopped}

-- the queue, from 0, that the block at `at` names
unfoldable pub queue_of : List ℕ → ℕ → ℕ
queue_of tables at = get_or tables (at + 1) 0 % max_queues

abbrev pub content : List ℕ → ℕ → ℕ
content tally q = get_or tally (Layout.content + q) 0

-- the content is n from now on: its statistics are brought up to date first
unfoldable pub change : List ℕ → List ℕ → Scalars → (q n : ℕ) → Rows
change w tally x q n = with_tally (go_on_lem w x) (set (update_queue tally q x.clock) (Layout.content + q) n)

module _ (tables w tally : List ℕ) (x : Scalars) (at : ℕ) where
  unfoldable pub arrive_rows : Rows
  arrive_rows = change w tally x (queue_of tables at) (min (content tally (queue_of tables at) + 1) Layout.most64)

  unfoldable pub depart_rows : Rows
  depart_rows =
      cond (eqb (content tally (queue_of tables at)) 0) (rows_of (stopped x 25) w tally)
      (change w tally x (queue_of tables at) (content tally (queue_of tables at) - 1))
