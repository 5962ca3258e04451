-- `leave_with` meets its contract, by the edition.
use Rattle.machine.specs.All.{eq-eqb, ne_eqb}
use Rattle.servers_laws.specs.Waking.{leave_with}
use Rattle.servers.proofs.waking.leave_with.Goals as goal

pub returns-then-edition-eq1 : goal.returns-then-edition-eq1
unfolding leave_with
returns-then-edition-eq1 c = rw (eq-eqb _ 1 c.if-edition-eq1.true)

pub returns-else-edition-eq1 : goal.returns-else-edition-eq1
unfolding leave_with
returns-else-edition-eq1 c = rw (ne_eqb _ 1 c.if-edition-eq1.false)
