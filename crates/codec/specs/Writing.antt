-- A number written at a position, if there is room for it.
use Rattle.std.specs.Prelude.{◌+◌}
use Rattle.machine.specs.All.{ℕ, cond, List, leb, length, sets, number_bytes}

-- a buffer, and the position after what was written
pub record Written : Type 0 where
  pub at : ℕ
  pub bytes : List ℕ

unfoldable pub written : ℕ → List ℕ → Written
written at bytes = record { at = at; bytes = bytes }

-- its bytes from the position on and the position after them; without room, all as it was
unfoldable pub put : ℕ → Written → Written
put v w =
    cond (leb (w.at + length (number_bytes v)) (length w.bytes))
    (written (w.at + length (number_bytes v)) (sets w.bytes w.at (number_bytes v)))
    w
