-- The row machine: rows that come to life and end, and the buffer at the start of a run.
use Rattle.std.specs.Prelude.{◌+◌, ◌*◌, ◌/◌}
use Rattle.machine.specs.All.{ℕ, zero, suc, List}
use Rattle.rows_laws.specs.Layout.{place, head, tail, fel, free, nowhere, number_field, standing_field, next_field, serial_field, family_field, list_count, row_count, parameter_field}
use Rattle.rows_laws.specs.Cells.{store, read, write, set_time}
use Rattle.rows_laws.specs.Lists.{insert_at}

-- ---- One row

unfoldable pub clear_parameters : List ℕ → ℕ → List ℕ
clear_parameters w k =
    write (write (write (write w parameter_field k 0) (parameter_field + 1) k 0) (parameter_field + 2) k 0) (parameter_field + 3) k 0

unfoldable pub copy_parameters : List ℕ → ℕ → ℕ → List ℕ
copy_parameters w j k =
    write
    (write (write (write w parameter_field k (read w parameter_field j)) (parameter_field + 1) k (read w (parameter_field + 1) j))
    (parameter_field + 2) k (read w (parameter_field + 2) j))
    (parameter_field + 3) k (read w (parameter_field + 3) j)

-- all but the parameters; not returning, no serial and no stamp yet
unfoldable pub describe : List ℕ → ℕ → ℕ → ℕ → ℕ → ℕ → List ℕ
describe w k number priority block family =
    write
    (set_time (write (write (write (write w number_field k number) standing_field k (priority * 2)) next_field k block) serial_field k 0) k 0)
    family_field k family

-- row k as a new transaction, which founds a family
unfoldable pub newborn_at : List ℕ → ℕ → ℕ → ℕ → ℕ → List ℕ
newborn_at w k number priority block = clear_parameters (describe w k number priority block number) k

-- row k as a copy of row j with a number of its own, of the same family
unfoldable pub copy_at : List ℕ → ℕ → ℕ → ℕ → ℕ → List ℕ
copy_at w j k number block = copy_parameters (describe w k number (read w standing_field j / 2) block (read w family_field j)) j k

-- row k, on no list, is free
unfoldable pub free_row : List ℕ → ℕ → List ℕ
free_row w k = insert_at w free (head free) k

-- ---- The start

unfoldable pub empty_list : List ℕ → ℕ → List ℕ
empty_list w p = store (store w (head p) row_count) (tail p) (head p)

-- lists 0..n - 1 are empty
unfoldable pub empty_lists : ℕ → List ℕ → List ℕ
empty_lists zero w = w
empty_lists (suc n) w = empty_list (empty_lists n w) n

-- and the heap
abbrev pub empty_fel : List ℕ → List ℕ
empty_fel w = store w (tail fel) 0

-- rows 0..n - 1 are on no list
unfoldable pub loose_rows : ℕ → List ℕ → List ℕ
loose_rows zero w = w
loose_rows (suc n) w = store (loose_rows n w) (place n) nowhere

-- rows 0..n - 1 are free
unfoldable pub free_rows : ℕ → List ℕ → List ℕ
free_rows zero w = w
free_rows (suc n) w = free_row (free_rows n w) n

unfoldable pub initial : List ℕ → List ℕ
initial w = free_rows row_count (loose_rows row_count (empty_fel (empty_lists list_count w)))
