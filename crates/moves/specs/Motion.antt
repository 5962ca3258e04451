-- The row machine: how the moving transaction goes on or comes to wait.
use Rattle.std.specs.Prelude.{◌+◌, ◌-◌, ◌%◌}
use Rattle.machine.specs.All.{ℕ, min, cond, List, eqb}
use Rattle.layout.specs.All.{most32}
use Rattle.rows_laws.specs.All.{standing_field, next_field, serial_field, row_count, read, write, set_returning, line_up}
use Rattle.state.specs.declared.scalars.Scalars.{Scalars}
use Rattle.state.specs.All.{put_moving, put_serial, put_end, put_note, Rows, rows_of}

-- the scalars and the work buffer
pub record Moved : Type 0 where
  pub scalars : Scalars
  pub work : List ℕ

unfoldable pub moved : Scalars → List ℕ → Moved
moved x w = record { scalars = x; work = w }

-- with the tally
abbrev pub with_tally : Moved → List ℕ → Rows
with_tally m tally = rows_of m.scalars m.work tally

-- the next number, stopping at the largest
abbrev pub next32 : ℕ → ℕ
next32 n = min (n + 1) most32

-- The scalars where the moving one entered (0), began to wait with the next serial (1), or came back to wait (2).
unfoldable pub with_outcome : Scalars → ℕ → Scalars
with_outcome x outcome =
    cond (eqb outcome 0) (put_note outcome x)
    (cond (eqb outcome 1) (put_note outcome (put_serial (next32 x.serial) (put_moving row_count x)))
    (put_note outcome (put_moving row_count x)))

unfoldable pub go_to : List ℕ → Scalars → ℕ → Moved
go_to w x block = moved (put_note 0 x) (set_returning (write w next_field x.moving block) x.moving 0)

unfoldable pub go_on_lem : List ℕ → Scalars → Moved
go_on_lem w x = go_to w x (next32 (read w next_field x.moving))

-- document 02, item 7: back by so many blocks, with no record
unfoldable pub go_back : List ℕ → Scalars → ℕ → Moved
go_back w x blocks =
    moved (put_note 2 x)
    (set_returning (write w next_field x.moving (read w next_field x.moving - blocks)) x.moving 0)

-- document 02, item 12: the edition in whose order the WSL and the lists of gatherers are, under either
abbrev pub in_order_lem : ℕ
in_order_lem = 1

-- onto list p as the edition has it
unfoldable pub put_back : List ℕ → Scalars → (p edition : ℕ) → Moved
put_back w x p edition = moved (put_note 2 (put_moving row_count x)) (line_up edition w p x.moving)

unfoldable pub begin_wait : List ℕ → Scalars → (p edition : ℕ) → Moved
begin_wait w x p edition =
    moved (put_note 1 (put_serial (next32 x.serial) (put_moving row_count x)))
    (line_up edition (write w serial_field x.moving (next32 x.serial)) p x.moving)

unfoldable pub wait_on : List ℕ → Scalars → (p edition : ℕ) → Moved
wait_on w x p edition = cond (eqb (read w standing_field x.moving % 2) 1) (put_back w x p edition) (begin_wait w x p edition)

-- A question stops the turn with the number of an end: nothing else changes, and no record is written.
unfoldable pub stopped : Scalars → ℕ → Scalars
stopped x n = put_note 2 (put_end n x)
