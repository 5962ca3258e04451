-- The row machine: GOTO.
use Rattle.std.specs.Prelude.{◌+◌}
use Rattle.machine.specs.All.{ℕ, List, get_or}
use Rattle.state.specs.declared.scalars.Scalars.{Scalars}
use Rattle.moves.specs.Motion.{Moved, go_to}

unfoldable pub goto_rows : (tables w : List ℕ) (x : Scalars) (at : ℕ) → Moved
goto_rows tables w x at = go_to w x (get_or tables (at + 1) 0)
