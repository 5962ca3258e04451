-- `pass_on` meets its contract, by cases on whether a group begins.
use Rattle.servers_laws.specs.WaitServer.{pass_on}
use Rattle.servers.proofs.waiting.pass_on.Goals as goal

pub returns-then-begins : goal.returns-then-begins
unfolding pass_on
returns-then-begins c =
    rw (c.if-begins.true, ← c.wake_first.ensures) c.stamp_on.ensures

pub returns : goal.returns
unfolding pass_on
returns c =
    rw (c.if-begins.false, ← c.wake_first.ensures) c.go_on.ensures
