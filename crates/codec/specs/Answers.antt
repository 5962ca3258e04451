-- What the answers of this crate say in the paper's terms. The contracts use these.
use Rattle.std.specs.Prelude.{◌+◌, ◌-◌, Some, None, Ok, Err, Result, Option as Maybe}
use Rattle.machine.specs.All.{ℕ, Option, none, some, Number, Cursor, Parsed, parsed, refused}
use Rattle.constants.specs.{declared.refusals.Refusal.Refusal, Numbers.refusal_number}

-- a number read at a position: its value and how many bytes it takes
unfoldable pub number_of : ℕ → Maybe (ℕ × ℕ) → Option Number
number_of at (Some n) = some (record { value = n.0; size = n.1 - at })
number_of at None = none

-- the same, from the definition's number to the answer
unfoldable pub read_as : ℕ → Option Number → Maybe (ℕ × ℕ)
read_as at none = None
read_as at (some n) = Some (n.value, at + n.size)

-- a position, and inside a value the numbers and mentions read so far
abbrev pub cursor_at : ℕ → ℕ → ℕ → Cursor
cursor_at at numbers mentions = record { position = at; numbers = numbers; mentions = mentions }

-- a field: its value and the cursor after it, or the number of the refusal
unfoldable pub parsed_of : ℕ → ℕ → Result (ℕ × ℕ) Refusal → Parsed ℕ
parsed_of numbers mentions (Ok n) = parsed n.0 (cursor_at n.1 numbers mentions)
parsed_of numbers mentions (Err r) = refused (refusal_number r)

-- the same of a refusal that is a number
unfoldable pub numbered : ℕ → ℕ → Result (ℕ × ℕ) ℕ → Parsed ℕ
numbered numbers mentions (Ok n) = parsed n.0 (cursor_at n.1 numbers mentions)
numbered numbers mentions (Err r) = refused r
