-- The row machine: a whole list goes to REL, before all who are there. Its rows are found by their places, in parts of the buffer from the
-- end on, until all are; its chain is then joined to that of REL.
use Rattle.std.specs.Prelude.{◌+◌, ◌*◌, ◌-◌, ◌/◌}
use Rattle.machine.specs.All.{ℕ, zero, suc, cond, List, ltb, eqb}
use Rattle.rows_laws.specs.Layout.{place, head, tail, rel, standing_field, field_at, row_count}
use Rattle.rows_laws.specs.{Cells.load, Cells.store, Cells.read, Lists.first, Make.empty_list}

-- ---- Its rows

-- where one is whose place is q, and how it stands, if list p goes to REL
unfoldable pub ready_place : (p q : ℕ) → ℕ
ready_place p q = cond (eqb q p) rel q

unfoldable pub ready_standing : (p q standing : ℕ) → ℕ
ready_standing p q standing = cond (eqb q p) (standing / 2 * 2 + 1) standing

unfoldable pub one_if : (p q : ℕ) → ℕ
one_if p q = cond (eqb q p) 1 0

unfoldable pub ready_row : List ℕ → (p k : ℕ) → List ℕ
ready_row w p k =
    store (store w (place k) (ready_place p (load w (place k)))) (field_at standing_field k)
    (ready_standing p (load w (place k)) (read w standing_field k))

-- n rows from a row on, and how many of them were on list p
unfoldable pub ready_rows : ℕ → List ℕ → (p from : ℕ) → List ℕ
ready_rows zero w p from = w
ready_rows (suc n) w p from = ready_row (ready_rows n w p from) p (from + n)

unfoldable pub ready_count : ℕ → List ℕ → (p from : ℕ) → ℕ
ready_count zero w p from = 0
ready_count (suc n) w p from = ready_count n w p from + one_if p (load (ready_rows n w p from) (place (from + n)))

-- the rows of a part
abbrev pub part_rows : ℕ
part_rows = 256

abbrev pub part_count : ℕ
part_count = 4

-- n parts, the last first, until so many rows are found
unfoldable pub ready_parts : ℕ → List ℕ → (p left : ℕ) → List ℕ
ready_parts zero w p left = w
ready_parts (suc n) w p left =
    cond (eqb left 0) w (ready_parts n (ready_rows part_rows w p (part_rows * n)) p (left - ready_count part_rows w p (part_rows * n)))

-- ---- Its chain

-- cell t is REL's last, where r, which was its first, is no row
unfoldable pub end_ready : List ℕ → (r t : ℕ) → List ℕ
end_ready w r t = cond (ltb r row_count) w (store w (tail rel) t)

-- list p, which is not empty and whose last cell is t, stands before REL, whose first was r
unfoldable pub join_at : List ℕ → (p t r : ℕ) → List ℕ
join_at w p t r = empty_list (end_ready (store (store w t r) (head rel) (first w p)) r t) p

unfoldable pub join_ready : List ℕ → ℕ → List ℕ
join_ready w p = join_at w p (load w (tail p)) (first w rel)

-- ---- Both

-- list p, which has so many
unfoldable pub wake_whole : List ℕ → (p n : ℕ) → List ℕ
wake_whole w p n = join_ready (ready_parts part_count w p n) p
