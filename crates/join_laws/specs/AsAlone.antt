-- Document 02, item 13, over bytes: "If neither model uses the clock term, under edition 2 both or neither have an ENTER or LEAVE of more than 1 unit,
-- and the joined run and each run alone end dry, then the records of either part, with blocks numbered as before and transactions by rank within
-- the part, are those of that part alone." Proved in ../proofs/AsAlone.antt.
use Rattle.std.specs.Prelude.{◌≡◌}
use Rattle.machine.specs.All.{ℕ, false, List, in_force, BlockModel, Record, accept, validate}
use Rattle.joined.specs.Parts.{uses_clock, SameUnits, Dry, Apart}
use Rattle.join_laws.specs.Joining.{joined, join}

-- for two accepted pairs whose join is not refused, and the model and tape that its bytes are; any budgets and lengths of the three traces
abbrev pub AsAlone : Type 0
AsAlone =
    (model₁ tape₁ model₂ tape₂ model tape : List ℕ) (modelRoom tapeRoom work report : ℕ) (m₁ m₂ m : BlockModel) (times₁ times₂ times : List (List ℕ))
    → validate in_force model₁ tape₁ work report ≡ accept m₁ times₁ → validate in_force model₂ tape₂ work report ≡ accept m₂ times₂
    → join model₁ tape₁ model₂ tape₂ modelRoom tapeRoom ≡ joined model tape → validate in_force model tape work report ≡ accept m times
    → uses_clock m₁ ≡ false → uses_clock m₂ ≡ false → SameUnits m₁ m₂
    → (joint alone₁ alone₂ : List Record) → Dry m times joint → Dry m₁ times₁ alone₁ → Dry m₂ times₂ alone₂ → Apart m₁ m₂ joint alone₁ alone₂
