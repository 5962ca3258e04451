-- `born_at` meets its contract: the row, then the FEL.
use Rattle.flow_laws.specs.Sending.{one_made, born_at}
use Rattle.flow.proofs.sending.born_at.Goals as goal

pub returns : goal.returns
unfolding one_made born_at
returns c =
    λ x e f. rw (e, ← c.saturating_add.ensures, ← c.newborn.ensures) (c.row_to_future.ensures _ f)
