-- `taken_off` meets its contract, by who goes.
use Rattle.machine.specs.All.{lt-ltb, le-ltb}
use Rattle.servers_laws.specs.Waking.{taken_off}
use Rattle.servers.proofs.waking.taken_off.Goals as goal

pub returns-then-left-units : goal.returns-then-left-units
unfolding taken_off
returns-then-left-units c = rw (lt-ltb _ _ c.if-left-units.true)

pub returns-else-left-units : goal.returns-else-left-units
unfolding taken_off
returns-else-left-units c = rw (le-ltb _ _ c.if-left-units.false)
