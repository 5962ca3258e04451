-- The row machine: moves to REL from the lists on which one waits.
use Rattle.machine.specs.All.{ℕ, zero, suc, Bool, cond, List, ltb}
use Rattle.rows_laws.specs.Layout.{link, head, rel, row_count}
use Rattle.rows_laws.specs.{Cells.load, Cells.set_returning, Lists.remove_at, Lists.put}

-- the row of cell c goes from list p to REL: it keeps its serial and is returning
unfoldable pub wake_row : List ℕ → ℕ → ℕ → ℕ → List ℕ
wake_row w p c k = put (set_returning (remove_at w p c) k 1) rel k

unfoldable pub wake_at : List ℕ → ℕ → ℕ → List ℕ
wake_at w p c = cond (ltb (load w c) row_count) (wake_row w p c (load w c)) w

abbrev pub wake_first : List ℕ → ℕ → List ℕ
wake_first w p = wake_at w p (head p)

-- the cell behind the row of cell c
unfoldable pub after : List ℕ → ℕ → ℕ
after w c = cond (ltb (load w c) row_count) (link (load w c)) c

-- One step along list p: the row of cell c goes to REL and the cell stays, or the row stays and the next cell follows.
unfoldable pub pass_rows : Bool → List ℕ → ℕ → ℕ → List ℕ
pass_rows moves w p c = cond moves (wake_at w p c) w

unfoldable pub pass_cell : Bool → List ℕ → ℕ → ℕ
pass_cell moves w c = cond moves c (after w c)

-- All rows from cell c on that pass a test go to REL. The test looks at a number too, which `next` gives anew behind each row.
unfoldable pub wake_walk : (test : ℕ → List ℕ → ℕ → Bool) (next : ℕ → List ℕ → ℕ → ℕ) → ℕ → (left : ℕ) → List ℕ → ℕ → ℕ → List ℕ
wake_walk test next zero left w p c = w
wake_walk test next (suc n) left w p c =
    cond (ltb (load w c) row_count)
    (wake_walk test next n (next left w (load w c)) (pass_rows (test left w (load w c)) w p c) p (pass_cell (test left w (load w c)) w c)) w

-- and with no number
unfoldable pub wake_all : (List ℕ → ℕ → Bool) → ℕ → List ℕ → ℕ → ℕ → List ℕ
wake_all test zero w p c = w
wake_all test (suc n) w p c =
    cond (ltb (load w c) row_count) (wake_all test n (pass_rows (test w (load w c)) w p c) p (pass_cell (test w (load w c)) w c)) w
