-- `free_one` meets its contract: the steps in order.
use Rattle.machine.specs.All.{refl}
use Rattle.moves.proofs.MotionLaws.{tallied}
use Rattle.servers_laws.proofs.AtClock.{changed-at}
use Rattle.servers_laws.specs.Freeing.{free_one}
use Rattle.servers.proofs.freeing.free_one.Goals as goal

pub returns : goal.returns
unfolding free_one
returns g c =
    λ x e t. rw (
      c.wake_first_ql.ensures.lengths,
      changed-at _ _ _ _ _ _ _ _ c.change_use.ensures t,
      ← c.wake_first_ql.ensures.rows,
      ← c.capacity-all.ensures.capacity,
    )
    (tallied _ _ _ _ _ (c.enter_freed.ensures x e) refl)
