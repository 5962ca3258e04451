-- `late` meets its contract: no back count, or the two times.
use Rattle.servers_laws.specs.WaitServer.{is_late}
use Rattle.servers_laws.proofs.Begins.{some-count}
use Rattle.servers.proofs.waiting.late.Goals as goal

pub returns-then-c-ne0 : goal.returns-then-c-ne0
unfolding is_late
returns-then-c-ne0 c =
    rw (some-count _ c.if-c-ne0.true, ← c.row.ensures, ← c.time.ensures, c.scalars.ensures.same)

pub returns-else-c-ne0 : goal.returns-else-c-ne0
unfolding is_late
returns-else-c-ne0 c = rw c.if-c-ne0.false
