-- `check_wel` meets its contract, by cases on the status.
use Rattle.machine.specs.All.{sym, ◌∙◌}
use Rattle.servers_laws.specs.Waking.{check_wel}
use Rattle.servers.proofs.waking.check_wel.Goals as goal

pub returns-then-not-holds : goal.returns-then-not-holds
unfolding check_wel
returns-then-not-holds c =
    rw (sym c.holds.ensures ∙ c.if-not-holds.true, ← c.number.ensures.same, ← c.watching.ensures) c.wake_first.ensures

pub returns-else-not-holds : goal.returns-else-not-holds
unfolding check_wel
returns-else-not-holds c = rw (sym c.holds.ensures ∙ c.if-not-holds.false)
