-- `wait_while` meets its contract, by cases on the status.
use Rattle.servers_laws.specs.WaitServer.{wait_while}
use Rattle.servers.proofs.waiting.wait_while.Goals as goal

pub returns-then-holds : goal.returns-then-holds
unfolding wait_while
returns-then-holds c =
    rw (c.if-holds.true, ← c.number.ensures) c.wait_on.ensures

pub returns : goal.returns
unfolding wait_while
returns c =
    rw c.if-holds.false c.pass_or_back.ensures
