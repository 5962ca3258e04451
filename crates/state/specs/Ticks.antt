-- A count of units, waiters or contents over some ticks, as a product of 64 bits.
use Rattle.std.specs.Prelude.{◌*◌}
use Rattle.machine.specs.All.{ℕ, cond, ltb}

-- no run counts so many: 2 to the 28
abbrev pub count_end : ℕ
count_end = 268435456

-- no clock moves by more ticks: 2 to the 36, less one
abbrev pub most_ticks : ℕ
most_ticks = 68719476735

-- 0 where there are too many
unfoldable pub product : ℕ → ℕ → ℕ
product a ticks = cond (ltb a count_end) (a * ticks) 0
