-- `check_first` meets its contract: three codes in order.
use Rattle.servers_laws.specs.Waking.{check_first}
use Rattle.servers.proofs.waking.check_first.Goals as goal

pub returns : goal.returns
unfolding check_first
returns c =
    rw (c.check_wel-3.ensures, c.check_wel-2.ensures, c.check_wel.ensures)
