-- Counting by words: bytes of a slice, the bytes of a word, and marks, from which a count is read.
use Rattle.std.specs.Prelude.{◌+◌, ◌*◌, ◌/◌, ◌%◌, ◌^◌, ◌≤◌, ◌<◌, ◌∷◌, ◌≡◌}
use Rattle.machine.specs.All.{ℕ, zero, suc, List, [], take, drop, count_low}

-- the n bytes from a position on
unfoldable pub part : List ℕ → ℕ → ℕ → List ℕ
part s at n = take n (drop at s)

-- the n lowest bytes of a word, lowest first
unfoldable pub bytes_of : ℕ → ℕ → List ℕ
bytes_of zero w = []
bytes_of (suc n) w = w % 256 ∷ bytes_of n (w / 256)

-- a word of n bytes that holds these
pub record Holds (n : ℕ) (l : List ℕ) (w : ℕ) : Type 0 where
  pub bytes : bytes_of n w ≡ l
  pub below : w < 256 ^ n

-- a 1 in each of the eight bytes of a word
abbrev pub ones : ℕ
ones = 72340172838076673

-- a number that leaves, modulo 255, how many of these n bytes are not low
pub record Marks (n : ℕ) (l : List ℕ) (r : ℕ) : Type 0 where
  pub left : count_low l + r % 255 ≡ n
  pub small : r ≤ n * ones
