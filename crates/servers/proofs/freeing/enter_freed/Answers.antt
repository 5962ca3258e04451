-- `enter_freed` meets its contract: the steps in order.
use Rattle.servers_laws.specs.Freeing.{enter_freed}
use Rattle.servers.proofs.freeing.enter_freed.Goals as goal

pub returns : goal.returns
unfolding enter_freed
returns c =
    λ x e. rw (← c.check_wels.ensures) (c.row_goes_on.ensures x e)
