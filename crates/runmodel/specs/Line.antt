-- A line that runmodel prints: letters, then numbers in decimal with one space between, then a line feed.
use Rattle.std.specs.Prelude.{◌+◌, ◌/◌, ◌%◌, ◌∷◌, ◌++◌}
use Rattle.machine.specs.All.{ℕ, zero, suc, cond, List, [], ltb}

-- a number of 64 bits has at most 20 digits, and one byte stands behind it; a line is eight letters and six numbers
abbrev pub digits : ℕ
digits = 20

abbrev pub number_room : ℕ
number_room = 21

abbrev pub letter_room : ℕ
letter_room = 8

abbrev pub line_room : ℕ
line_room = 134

-- the decimal digits of n, at most k of them, in ASCII
unfoldable pub numeral : ℕ → ℕ → List ℕ
numeral zero n = []
numeral (suc k) n = cond (ltb n 10) ((48 + n) ∷ []) (numeral k (n / 10) ++ ((48 + n % 10) ∷ []))

-- what stands behind a number: a space if numbers follow, else the line feed
unfoldable pub behind : List ℕ → ℕ
behind [] = 10
behind (n ∷ l) = 32

unfoldable pub numerals : List ℕ → List ℕ
numerals [] = []
numerals (n ∷ l) = numeral digits n ++ (behind l ∷ []) ++ numerals l

unfoldable pub line : (letters numbers : List ℕ) → List ℕ
line letters numbers = letters ++ numerals numbers
