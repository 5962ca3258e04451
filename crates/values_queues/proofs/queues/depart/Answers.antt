-- `depart` meets its contract, by cases on whether there is content.
use Rattle.machine.specs.All.{eq-eqb, ne_eqb}
use Rattle.values_queues_laws.specs.Queues.{depart_rows}
use Rattle.values_queues.proofs.queues.depart.Goals as goal

pub returns-then-content-eq0 : goal.returns-then-content-eq0
unfolding depart_rows
returns-then-content-eq0 c =
    rw (← c.queue_at-q.ensures.queue, ← c.count-content.ensures, eq-eqb _ 0 c.if-content-eq0.true, c.stop.ensures, c.scalars.ensures.same)

pub returns : goal.returns
unfolding depart_rows
returns c =
    rw (← c.queue_at-q.ensures.queue, ← c.count-content.ensures, ne_eqb _ 0 c.if-content-eq0.false) c.change.ensures
