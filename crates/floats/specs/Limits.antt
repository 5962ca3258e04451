-- The limits of document 02, item 4, on what a distribution holds in doubles.
use Rattle.std.specs.Prelude.{ℕ}

-- "Times, means and halves are multiples of 1/64"
abbrev pub time_parts : ℕ
time_parts = 64

-- "from 0 to 1,000,000"
abbrev pub max_time : ℕ
max_time = 1000000

-- that is, in 64ths
abbrev pub max_time_parts : ℕ
max_time_parts = 64000000

-- "mean at most 500,000", in 64ths
abbrev pub max_mean_parts : ℕ
max_mean_parts = 32000000

-- "u .. in 65,536ths"
abbrev pub draw_parts : ℕ
draw_parts = 65536

-- "within one millionth"
abbrev pub million : ℕ
million = 1000000
