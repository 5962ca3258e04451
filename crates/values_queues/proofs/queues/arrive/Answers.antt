-- `arrive` meets its contract: one content more.
use Rattle.values_queues_laws.specs.Queues.{arrive_rows}
use Rattle.values_queues.proofs.queues.arrive.Goals as goal

pub returns : goal.returns
unfolding arrive_rows
returns c =
    rw (← c.queue_at-q.ensures.queue, ← c.count.ensures, ← c.saturating_add.ensures) c.change.ensures
