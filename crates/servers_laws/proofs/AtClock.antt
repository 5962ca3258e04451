-- A tally brought up to date at the clock of some scalars.
use Rattle.machine.specs.All.{ℕ, ◌≡◌, List}
use Rattle.state.specs.All.{update_server}
use Rattle.servers_laws.specs.{change_use}
use mathlib.Core.Path.{sym, ap, ◌∙◌}

-- the scalars' clock may stand for the number that was handed over
pub updated-at : (tally after : List ℕ) (v clock now : ℕ) → after ≡ update_server tally v clock → now ≡ clock
    → after ≡ update_server tally v now
updated-at tally after v clock now e n = e ∙ ap (update_server tally v) (sym n)

-- the same of a change of use
pub changed-at : (tally after : List ℕ) (v clock now units who preempts : ℕ) → after ≡ change_use tally v clock units who preempts
    → now ≡ clock
    → after ≡ change_use tally v now units who preempts
changed-at tally after v clock now units who preempts e n = e ∙ ap (λ t. change_use tally v t units who preempts) (sym n)
