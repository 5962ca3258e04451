-- `stamp_on` meets its contract: the steps in order.
use Rattle.servers_laws.specs.WaitServer.{stamp_on}
use Rattle.servers.proofs.waiting.stamp_on.Goals as goal

pub returns : goal.returns
unfolding stamp_on
returns c =
    let stamped = rw (c.row.ensures, c.scalars.ensures.same) at c.set_time.ensures in
    rw (← stamped) c.go_on.ensures
