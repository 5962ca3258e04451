-- `check_wels` meets its contract: six codes in order.
use Rattle.servers_laws.specs.Waking.{check_wels}
use Rattle.servers.proofs.waking.check_wels.Goals as goal

pub returns : goal.returns
unfolding check_wels
returns c =
    rw (c.check_last.ensures, c.check_first.ensures)
