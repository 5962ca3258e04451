-- A whole trace, record by record.
use Rattle.std.specs.Prelude.{◌∷◌, ◌≡◌}
use Rattle.machine.specs.All.{ℕ, true, List, [], in_force, Record, taken, no_more, read_record, in_ranges}

-- From this position on the reader takes exactly these records, each at the position that the one before it gave, and then
-- answers "no more".
pub data Reads (s : List ℕ) : ℕ → List Record → Type 0 where
  ends : {at : ℕ} → read_record in_force s at ≡ no_more → Reads s at []
  takes : {at next : ℕ} {r : Record} {l : List Record} → read_record in_force s at ≡ taken r next → Reads s next l → Reads s at (r ∷ l)

-- every record is within the ranges
abbrev pub AllInRanges : List Record → Type 0
AllInRanges [] = Unit {0}
AllInRanges (r ∷ l) = (in_ranges in_force r ≡ true) × AllInRanges l
