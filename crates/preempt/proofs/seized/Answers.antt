-- `seized` meets its contract, by cases on who holds it.
use Rattle.machine.specs.All.{eq-eqb, ne_eqb}
use Rattle.preempt_laws.specs.Preempting.{seized}
use Rattle.preempt.proofs.seized.Goals as goal

pub returns-then-preempted-eq0 : goal.returns-then-preempted-eq0
unfolding seized
returns-then-preempted-eq0 c = rw (← c.preempted.ensures, eq-eqb _ 0 c.if-preempted-eq0.true, ← c.in_use.ensures)

pub returns-else-preempted-eq0 : goal.returns-else-preempted-eq0
unfolding seized
returns-else-preempted-eq0 c = rw (← c.preempted.ensures, ne_eqb _ 0 c.if-preempted-eq0.false)
