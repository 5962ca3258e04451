-- The numbers of a report as runmodel reads them, from bytes and a position; and the header of an accepted model.
use Rattle.std.specs.Prelude.{◌+◌, ◌∷◌}
use Rattle.machine.specs.All.{ℕ, zero, suc, List, [], Option, none, some, drop, max_report_number_bytes, max_report_number, Number, read_number, Validation, accept, reject}
use Rattle.constants.specs.declared.model.Model.{Model}
use Rattle.layout.specs.All.{header_of}
use Rattle.runmodel.specs.declared.printing.Field.{Field}

-- a number and the position behind it; where none stands, 0 and the same position
unfoldable pub field_of : ℕ → Option Number → Field
field_of at none = record { value = 0; next = at }
field_of at (some n) = record { value = n.value; next = at + n.size }

unfoldable pub field_at : List ℕ → ℕ → Field
field_at s at = field_of at (read_number max_report_number_bytes max_report_number (drop at s))

-- so many numbers from a position on
unfoldable pub numbers_at : List ℕ → ℕ → ℕ → List ℕ
numbers_at s zero at = []
numbers_at s (suc n) at = (field_at s at).value ∷ numbers_at s n (field_at s at).next

-- the position behind them
unfoldable pub behind_numbers : List ℕ → ℕ → ℕ → ℕ
behind_numbers s zero at = at
behind_numbers s (suc n) at = behind_numbers s n (field_at s at).next

-- the position behind those of so many servers or queues, with `count` numbers each
unfoldable pub behind_things : List ℕ → (count things : ℕ) → ℕ → ℕ
behind_things s count zero at = at
behind_things s count (suc n) at = behind_things s count n (behind_numbers s count at)

abbrev no_model : Model
no_model = record { facilities = 0; storages = 0; queues = 0; values = 0; lists = 0; counter = 0; blocks = 0 }

-- how many servers and queues there are: of a model that is accepted
unfoldable pub header_for : Validation → Model
header_for (accept m tape) = header_of m
header_for (reject n) = no_model
