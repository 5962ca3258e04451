-- `back_from` meets its contract: the steps in order.
use Rattle.servers_laws.specs.WaitServer.{back_from}
use Rattle.servers.proofs.waiting.back_from.Goals as goal

pub returns : goal.returns
unfolding back_from
returns c =
    rw (← c.wake_first.ensures) c.go_back.ensures
