-- `arrives` meets its contract: the sample, then the new transaction.
use Rattle.machine.specs.All.{ℕ, ◌≡◌, ap, List}
use Rattle.moves.specs.Motion.{Moved, moved, with_tally}
use Rattle.flow_laws.specs.Sending.{arrives}
use Rattle.flow.proofs.sending.arrives.Goals as goal

beside : (tally : List ℕ) (m n : Moved) → m ≡ n → with_tally m tally ≡ with_tally n tally
beside tally m n e = ap (λ (y : Moved). with_tally y tally) e

pub returns : goal.returns
unfolding arrives moved
returns c =
    λ x e f g. rw (g, ← c.saturating_add-time.ensures, ← c.use_time.ensures) (beside _ _ _ (c.born.ensures _ e f))
