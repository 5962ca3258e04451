-- The row machine: rows on no list go to the FEL or to REL with a fresh serial, and new rows are made for both.
use Rattle.std.specs.Prelude.{◌+◌, ◌%◌}
use Rattle.machine.specs.All.{ℕ, min, Bool, cond, List, ltb}
use Rattle.layout.specs.All.{most32, most64}
use Rattle.rows_laws.specs.All.{serial_field, rel, free, row_count, write, set_time, put, first, take_first, schedule, newborn_at, copy_at}
use Rattle.state.specs.{declared.scalars.Scalars.Scalars, All.put_serial, All.put_made, All.Rows}
use Rattle.moves.specs.Motion.{Moved, moved, with_tally, next32}
use Rattle.flow_laws.specs.{declared.samples.Sample.Sample, Samples.use_time}

-- a priority is below this number
abbrev pub priorities : ℕ
priorities = 128

-- sums that stop at the largest number
abbrev pub plus32 : ℕ → ℕ → ℕ
plus32 a b = min (a + b) most32

abbrev pub plus64 : ℕ → ℕ → ℕ
plus64 a b = min (a + b) most64

unfoldable pub to_future : List ℕ → Scalars → ℕ → ℕ → Moved
to_future w x k time =
    moved (put_serial (next32 x.serial) x) (schedule (set_time (write w serial_field k (next32 x.serial)) k time) k)

unfoldable pub to_ready : List ℕ → Scalars → ℕ → Moved
to_ready w x k = moved (put_serial (next32 x.serial) x) (put (write w serial_field k (next32 x.serial)) rel k)

-- ---- A new transaction on the FEL

-- the scalars where one was made, if one was: the next number and serial are used
unfoldable pub one_made : Scalars → Bool → Scalars
one_made x made = cond made (put_serial (next32 x.serial) (put_made (next32 x.made) x)) x

unfoldable pub born_at : List ℕ → Scalars → ℕ → (time priority block : ℕ) → Moved
born_at w x k time priority block =
    to_future (newborn_at w k (next32 x.made) (priority % priorities) block) (put_made (next32 x.made) x) k time

-- in the first free row; nothing where there is none
unfoldable pub born : List ℕ → Scalars → (time priority block : ℕ) → Moved
born w x time priority block =
    cond (ltb (first w free) row_count) (born_at (take_first w free) x (first w free) time priority block) (moved x (take_first w free))

-- at the clock plus a sample, which is used
unfoldable pub arrives : List ℕ → List ℕ → Scalars → Sample → (list priority block : ℕ) → Rows
arrives w tally x sample list priority block =
    with_tally (born w x (plus64 x.clock sample.time) priority block) (use_time tally list sample.next)

-- ---- A copy of the moving one on REL

unfoldable pub copy_to : List ℕ → Scalars → ℕ → (target : ℕ) → Moved
copy_to w x k target = to_ready (copy_at w x.moving k (next32 x.made) target) (put_made (next32 x.made) x) k

unfoldable pub copy_one : List ℕ → Scalars → (target : ℕ) → Moved
copy_one w x target =
    cond (ltb (first w free) row_count) (copy_to (take_first w free) x (first w free) target) (moved x (take_first w free))
