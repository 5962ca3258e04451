-- Document 02, item 13: "If neither model uses the clock term, under edition 2 both or neither have an ENTER or LEAVE of more than 1 unit, and the
-- joined run and each run alone end dry, then the records of either part, with blocks numbered as before and transactions by rank within the
-- part, are those of that part alone." Proved in ../proofs/Parts.antt.
use Rattle.std.specs.Prelude.{◌+◌, ◌-◌, ◌≡◌, ◌&&◌, ◌||◌}
use Rattle.machine.specs.All.{ℕ, Bool, true, false, List, map, leb, ltb, eqb, length, those, any_of, bit, up_to, Rules, Term, constant, minus_constant, parameter, clock_term, entries_of, content_of, units_in_use, units_free, facility_in_use, value, comparison, bracket, Sum, nothing, plus, minus, facts, above_one, BlockModel, Record, run, accept, validate, records_of}
use Rattle.joined.specs.Join.{Part, first, second, join_models, join_tapes, joinable}

-- ---- "uses the clock term"

unfoldable mutual
  pub clock_in : Term → Bool
  clock_in (constant k) = false
  clock_in (minus_constant k) = false
  clock_in (parameter k) = false
  clock_in clock_term = true
  clock_in (entries_of b) = false
  clock_in (content_of q) = false
  clock_in (units_in_use v) = false
  clock_in (units_free v) = false
  clock_in (facility_in_use v) = false
  clock_in (value k) = false
  clock_in (comparison r a b) = clock_in a || clock_in b
  clock_in (bracket e) = clock_in_sum e

  pub clock_in_sum : Sum → Bool
  clock_in_sum nothing = false
  clock_in_sum (plus t e) = clock_in t || clock_in_sum e
  clock_in_sum (minus t e) = clock_in t || clock_in_sum e

-- in a value or in a block
unfoldable pub uses_clock : BlockModel → Bool
uses_clock m = any_of clock_in_sum m.values || any_of (λ b. any_of clock_in (facts b).terms) m.blocks

-- ---- "the records of either part, with blocks numbered as before and transactions by rank within the part"

-- is a block of the joined model one of a part, which has n of them?
abbrev pub in_part : Part → (n block : ℕ) → Bool
in_part p n b = ltb p.to_block b && leb b (p.to_block + n)

-- the records at a part's blocks, as that part numbers them
unfoldable pub records_in : Part → (n : ℕ) → List Record → List Record
records_in p n l =
    map (λ r. record { clock = r.clock; transaction = r.transaction; block = r.block - p.to_block; outcome = r.outcome })
    (those (λ r. in_part p n r.block) l)

-- how many of the numbers up to n have a record
unfoldable pub rank : List Record → (n : ℕ) → ℕ
rank l n = up_to n (λ k. bit (any_of (λ r. eqb r.transaction k) l))

unfoldable pub by_rank : List Record → List Record
by_rank l = map (λ r. record { clock = r.clock; transaction = rank l r.transaction; block = r.block; outcome = r.outcome }) l

abbrev pub part_of : Part → BlockModel → List Record → List Record
part_of p m l = by_rank (records_in p (length m.blocks) l)

-- ---- The claim, of decoded models and tapes

-- "under edition 2 both or neither have an ENTER or LEAVE of more than 1 unit"
abbrev pub SameUnits : (m₁ m₂ : BlockModel) → Type 0
SameUnits m₁ m₂ = m₁.edition ≡ 2 → any_of above_one m₁.blocks ≡ any_of above_one m₂.blocks

-- the records of a run that "ends dry"
pub record Dry (m : BlockModel) (tape : List (List ℕ)) (records : List Record) : Type 0 where
  pub budget : ℕ
  pub room : ℕ
  pub ends : (run m tape budget room).end ≡ 1
  pub those_of : records ≡ records_of (run m tape budget room)

pub record Apart (m₁ m₂ : BlockModel) (joint alone₁ alone₂ : List Record) : Type 0 where
  pub of-first : part_of (first m₁ m₂) m₁ joint ≡ alone₁
  pub of-second : part_of (second m₁ m₂) m₂ joint ≡ alone₂

-- for accepted pairs under some rules, any budgets and any lengths of the three traces
abbrev pub TwoPlants : Rules → Type 0
TwoPlants rules =
    (model₁ tape₁ model₂ tape₂ : List ℕ) (work report : ℕ) (m₁ m₂ : BlockModel) (times₁ times₂ : List (List ℕ))
    → validate rules model₁ tape₁ work report ≡ accept m₁ times₁ → validate rules model₂ tape₂ work report ≡ accept m₂ times₂
    → joinable m₁ m₂ ≡ true → uses_clock m₁ ≡ false → uses_clock m₂ ≡ false → SameUnits m₁ m₂
    → (joint alone₁ alone₂ : List Record) → Dry (join_models m₁ m₂) (join_tapes times₁ times₂) joint → Dry m₁ times₁ alone₁ → Dry m₂ times₂ alone₂
    → Apart m₁ m₂ joint alone₁ alone₂
