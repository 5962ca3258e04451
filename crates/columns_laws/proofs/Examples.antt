-- Item 10 by examples: three records at clocks 3, 5 and 133 and their columns; the empty trace; and the answers 51 and 52.
use Rattle.machine.specs.All.{List, [], ◌∷◌, ◌≡◌, refl, ℕ, everything, written, rejected}
use Rattle.columns_laws.specs.Columns.{differences, column, column_bytes, never_fall, behind, whole_from, rising, taken_trace, rows, clocks_from, column_fields, records_of, taken_columns, answer, to_columns, from_columns}

unfoldable all : Unit {0}
unfolding everything differences column column_bytes never_fall behind whole_from rising taken_trace rows clocks_from column_fields records_of
    taken_columns answer to_columns from_columns
all = tt

abbrev trace : List ℕ
trace = 3 ∷ 1 ∷ 1 ∷ 0 ∷ 5 ∷ 1 ∷ 2 ∷ 1 ∷ 129 ∷ 5 ∷ 2 ∷ 1 ∷ 0 ∷ []

-- the count; 3, 2 and 128 ticks; transactions 1, 1, 2; blocks 1, 2, 1; outcomes 0, 1, 0
abbrev columns : List ℕ
columns = 3 ∷ 3 ∷ 2 ∷ 129 ∷ 0 ∷ 1 ∷ 1 ∷ 2 ∷ 1 ∷ 2 ∷ 1 ∷ 0 ∷ 1 ∷ 0 ∷ []

there : to_columns trace 14 ≡ written columns
unfolding all
there = refl

back : from_columns columns 13 ≡ written trace
unfolding all
back = refl

-- ---- The empty trace is the byte 00

empty : to_columns [] 1 ≡ written (0 ∷ [])
unfolding all
empty = refl

empty_back : from_columns (0 ∷ []) 0 ≡ written []
unfolding all
empty_back = refl

-- ---- 51, whatever was lent; then 52

falling : to_columns (3 ∷ 1 ∷ 1 ∷ 0 ∷ 2 ∷ 1 ∷ 1 ∷ 0 ∷ []) 0 ≡ rejected 51
unfolding all
falling = refl

nothing : from_columns [] 0 ≡ rejected 51
unfolding all
nothing = refl

-- one byte too many
left_over : from_columns (0 ∷ 0 ∷ []) 9 ≡ rejected 51
unfolding all
left_over = refl

-- 32,000,000,000 ticks, and one more
at_the-limit : from_columns (1 ∷ 247 ∷ 154 ∷ 229 ∷ 128 ∷ 0 ∷ 1 ∷ 1 ∷ 0 ∷ []) 8 ≡ written (247 ∷ 154 ∷ 229 ∷ 128 ∷ 0 ∷ 1 ∷ 1 ∷ 0 ∷ [])
unfolding all
at_the-limit = refl

past_the-limit : from_columns (2 ∷ 247 ∷ 154 ∷ 229 ∷ 128 ∷ 0 ∷ 1 ∷ 1 ∷ 1 ∷ 1 ∷ 1 ∷ 0 ∷ 0 ∷ []) 99 ≡ rejected 51
unfolding all
past_the-limit = refl

short : to_columns trace 13 ≡ rejected 52
unfolding all
short = refl

short_back : from_columns columns 12 ≡ rejected 52
unfolding all
short_back = refl
