-- Steps until an end, of anything that tells the end before a step, takes one and keeps the end: the machine's `run_from` over
-- rows is an instance.
use Rattle.std.specs.Prelude.{◌∷◌}
use Rattle.machine.specs.All.{ℕ, zero, suc, true, false, List, [], eqb}

module _ {A : Type 0} (end_of : A → ℕ) (step : A → A) (close : ℕ → A → A) where
  unfoldable pub run_steps : ℕ → A → A
  run_steps zero a = a
  run_steps (suc n) a = elim (eqb (end_of a) 0) [ true ↦ run_steps n (step a) | false ↦ close (end_of a) a ]

  -- what they pass: one before each step, and the last
  unfoldable pub passed : ℕ → A → List A
  passed zero a = a ∷ []
  passed (suc n) a = elim (eqb (end_of a) 0) [ true ↦ a ∷ passed n (step a) | false ↦ close (end_of a) a ∷ [] ]
