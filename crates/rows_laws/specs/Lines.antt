-- The row machine: how a waiter comes onto a QL or WEL, by the model's edition (document 02, item 12). The cursor is a cell.
use Rattle.std.specs.Prelude.{◌-◌, ◌%◌}
use Rattle.machine.specs.All.{ℕ, zero, suc, Bool, false, cond, List, ltb, leb, eqb}
use Rattle.rows_laws.specs.Layout.{link, head, tail, links, row_count, standing_field}
use Rattle.rows_laws.specs.{Cells.load, Cells.read, Cells.priority_of, Lists.insert_at, Lists.put}

-- has row j at least the priority of row k?
abbrev pub at_least : List ℕ → (k j : ℕ) → Bool
at_least w k j = leb (priority_of w k) (priority_of w j)

-- behind row j, where it passes; else as found
unfoldable pub found_at : List ℕ → (k j found : ℕ) → ℕ
found_at w k j found = cond (at_least w k j) (link j) found

-- the cell behind the last row, from cell c on, of at least the priority of row k; `found` where there is none
unfoldable pub last_cell : ℕ → List ℕ → (k c found : ℕ) → ℕ
last_cell zero w k c found = found
last_cell (suc n) w k c found =
    cond (ltb (load w c) row_count) (last_cell n w k (link (load w c)) (found_at w k (load w c) found)) found

-- is the row whose link cell t is one of them?
unfoldable pub last_meets : List ℕ → (k t : ℕ) → Bool
last_meets w k t = cond (ltb t links) false (cond (ltb (t - links) row_count) (at_least w k (t - links)) false)

-- for one that is not returning: the last cell of list p where the last row is one, else behind the last that is
unfoldable pub back_before : List ℕ → (p k t : ℕ) → ℕ
back_before w p k t = cond (last_meets w k t) t (last_cell row_count w k (head p) (head p))

unfoldable pub back_spot : List ℕ → (p k : ℕ) → ℕ
back_spot w p k = back_before w p k (load w (tail p))

-- a returning one goes to the front
unfoldable pub second_spot : List ℕ → (p k : ℕ) → ℕ
second_spot w p k = cond (eqb (read w standing_field k % 2) 1) (head p) (back_spot w p k)

-- row k comes onto list p
unfoldable pub line_up : (edition : ℕ) → List ℕ → (p k : ℕ) → List ℕ
line_up edition w p k = cond (eqb edition 1) (put w p k) (insert_at w p (second_spot w p k) k)
