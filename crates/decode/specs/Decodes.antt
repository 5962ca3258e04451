-- What decoding gives, by cases on the machine's answer to the questions: the refusal with the number of the first "no"; or the header of the
-- model, with tables and list cells that represent model and tape.
use Rattle.std.specs.Prelude.{◌≡◌, Ok}
use Rattle.machine.specs.All.{ℕ, List, Validation, accept, reject}
use Rattle.layout.specs.All.{header_of, Represents}
use Rattle.parse_values.specs.Keeps.{Refuses}
use Rattle.decode.specs.Models.{Decoded}

abbrev pub Decodes : (tape_bytes : List ℕ) → Decoded → (tables lists : List ℕ) → Validation → Type 0
Decodes tape_bytes r tables lists (accept m tape) = (r ≡ Ok (header_of m)) × Represents m tape tape_bytes tables lists
Decodes tape_bytes r tables lists (reject n) = Refuses r n

-- the number alone, 0 for a model and tape that are accepted
unfoldable pub refusal_of : Validation → ℕ
refusal_of (accept m tape) = 0
refusal_of (reject n) = n
