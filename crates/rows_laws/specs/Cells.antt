-- Single numbers of the buffer.
use Rattle.std.specs.Prelude.{◌+◌, ◌*◌, ◌/◌, ◌%◌}
use Rattle.machine.specs.All.{ℕ, cond, List, ltb, get_or, set, work_numbers}
use Rattle.rows_laws.specs.Layout.{field_at, standing_field, time_field, time_high_field, word_end}

abbrev pub load : List ℕ → ℕ → ℕ
load w i = get_or w i 0

-- nothing past the 16,384th is written
unfoldable pub store : List ℕ → ℕ → ℕ → List ℕ
store w i x = cond (ltb i work_numbers) (set w i x) w

-- a field of a row
abbrev pub read : List ℕ → ℕ → ℕ → ℕ
read w f k = load w (field_at f k)

abbrev pub write : List ℕ → ℕ → ℕ → ℕ → List ℕ
write w f k x = store w (field_at f k) x

abbrev pub priority_of : List ℕ → ℕ → ℕ
priority_of w k = read w standing_field k / 2

abbrev pub set_returning : List ℕ → ℕ → ℕ → List ℕ
set_returning w k mark = write w standing_field k (read w standing_field k / 2 * 2 + mark)

-- the move time of a row, in two fields
unfoldable pub time_of : List ℕ → ℕ → ℕ
time_of w k = read w time_high_field k * word_end + read w time_field k

unfoldable pub set_time : List ℕ → ℕ → ℕ → List ℕ
set_time w k time = write (write w time_field k (time % word_end)) time_high_field k (time / word_end)
