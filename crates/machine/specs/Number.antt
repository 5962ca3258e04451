-- Bytes, "A number is groups of seven bits, highest first, top bit set on all bytes but the last, shortest form, at most
-- 5 bytes and 4,294,967,295 (report: 9 bytes)."
use Rattle.std.specs.Prelude.{◌+◌, ◌*◌, ◌-◌, ◌/◌, ◌%◌, ◌∷◌, ◌++◌}
use Rattle.machine.specs.Basics.{ℕ, zero, suc, Bool, false, cond, List, [], Option, none, some, ltb, leb, eqb}

-- ---- Written

-- the groups of v above the last, at most k of them, each with its top bit set
unfoldable pub upper : ℕ → ℕ → List ℕ
upper zero v = []
upper (suc k) v = cond (eqb v 0) [] (upper k (v / 128) ++ ((128 + v % 128) ∷ []))

-- the bytes of a number of at most nine groups
unfoldable pub number_bytes : ℕ → List ℕ
number_bytes v = upper 8 (v / 128) ++ (v % 128 ∷ [])

-- ---- Read

-- A number that was read, and how many bytes it takes.
pub record Number : Type 0 where
  pub value : ℕ
  pub size : ℕ

-- one byte more in front
unfoldable pub longer : Option Number → Option Number
longer none = none
longer (some n) = some (record { value = n.value; size = suc n.size })

-- the groups that begin with these bytes, at most k of them, behind groups worth v
unfoldable pub groups : ℕ → ℕ → List ℕ → Option Number
groups zero v l = none
groups (suc k) v [] = none
groups (suc k) v (b ∷ l) =
    cond (ltb b 128) (some (record { value = v * 128 + b; size = 1 })) (longer (groups k (v * 128 + (b - 128)) l))

-- "shortest form": no number begins with an empty group
unfoldable pub padded : List ℕ → Bool
padded [] = false
padded (b ∷ l) = eqb b 128

-- in size: at most `most`
unfoldable pub within : ℕ → Option Number → Option Number
within most none = none
within most (some n) = cond (leb n.value most) (some n) none

-- The number at the front of these bytes, of at most k bytes and at most `most`: none where it is not whole, not
-- shortest or too large.
unfoldable pub read_number : ℕ → ℕ → List ℕ → Option Number
read_number k most l = cond (padded l) none (within most (groups k 0 l))

-- ---- The counter of the trace reader: "a second call counts the bytes below 80 hexadecimal"

unfoldable pub count_low : List ℕ → ℕ
count_low [] = 0
count_low (b ∷ l) = cond (ltb b 128) (suc (count_low l)) (count_low l)
