-- `left_behind` meets its contract, by the edition.
use Rattle.machine.specs.All.{eq-eqb, ne_eqb}
use Rattle.servers_laws.specs.Waking.{left_behind}
use Rattle.servers.proofs.waking.left_behind.Goals as goal

pub returns-then-edition-eq1 : goal.returns-then-edition-eq1
unfolding left_behind
returns-then-edition-eq1 c = rw (eq-eqb _ 1 c.if-edition-eq1.true)

pub returns-else-edition-eq1 : goal.returns-else-edition-eq1
unfolding left_behind
returns-else-edition-eq1 c = rw (ne_eqb _ 1 c.if-edition-eq1.false) c.taken_off.ensures
