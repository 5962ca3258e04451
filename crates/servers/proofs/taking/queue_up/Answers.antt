-- `queue_up` meets its contract: the statistics, the length in the tally, then the wait.
use Rattle.machine.specs.All.{refl}
use Rattle.moves.proofs.MotionLaws.{tallied}
use Rattle.servers_laws.proofs.AtClock.{updated-at}
use Rattle.servers_laws.specs.Taking.{longer, queue_up}
use Rattle.servers.proofs.taking.queue_up.Goals as goal

pub returns : goal.returns
unfolding queue_up longer
returns c =
    λ x e f g. rw (
      c.set_count.ensures,
      c.saturating_add-n.ensures,
      c.count.ensures,
      c.index-at.ensures.same,
      updated-at _ _ _ _ _ (rw c.index.ensures.same at c.update_server.ensures) g,
    )
    (tallied _ _ _ _ _ (rw c.queue.ensures at (c.row_waits.ensures x e f)) refl)
