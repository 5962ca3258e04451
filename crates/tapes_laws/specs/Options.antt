-- One question after the other, where "no" ends them all.
use Rattle.machine.specs.All.{Bool, true, false}
use Rattle.std.specs.Prelude.{Option, None as none, Some as some}

unfoldable pub continue : {A B : Type 0} → Option A → (A → Option B) → Option B
continue none f = none
continue (some a) f = f a

infixl 20 ◌>>=◌
abbrev pub ◌>>=◌ : {A B : Type 0} → Option A → (A → Option B) → Option B
◌>>=◌ o f = continue o f

infixl 20 ◌>>◌
abbrev pub ◌>>◌ : {A B : Type 0} → Option A → Option B → Option B
◌>>◌ o p = continue o (λ a. p)

unfoldable pub ask : Bool → Option (Unit {0})
ask true = some tt
ask false = none
