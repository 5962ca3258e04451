-- `change` meets its contract: the statistics, one store to the tally, then the transaction goes on.
use Rattle.machine.specs.All.{◌∙◌}
use Rattle.values_queues_laws.specs.Queues.{change}
use Rattle.moves.proofs.MotionLaws.{tallied}
use Rattle.values_queues.proofs.queues.change.Goals as goal

pub returns : goal.returns
unfolding change
returns c =
    tallied _ _ _ _ _ c.go_on.ensures (c.set_count.ensures ∙ rw (c.update_queue.ensures, c.scalars.ensures.same))
