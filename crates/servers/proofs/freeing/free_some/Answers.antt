-- `free_some` meets its contract: the steps in order.
use Rattle.machine.specs.All.{refl}
use Rattle.moves.proofs.MotionLaws.{tallied}
use Rattle.servers_laws.proofs.AtClock.{changed-at}
use Rattle.servers_laws.specs.Freeing.{free_some}
use Rattle.servers.proofs.freeing.free_some.Goals as goal

pub returns : goal.returns
unfolding free_some
returns c =
    λ x e g.
    let n = rw c.index-at.ensures.same at c.count.ensures in
    let stay = rw c.index-at.ensures.same at c.set_count.ensures in
    rw (
      ← c.capacity-all.ensures.capacity,
      ← c.number-edition.ensures,
      ← c.saturating_sub.ensures,
      ← c.leave_with-left.ensures,
      ← changed-at _ _ _ _ _ _ _ _ c.change_use.ensures g,
      ← n,
      ← c.wake_some-stay.ensures.rows,
      ← c.wake_some-stay.ensures.stays,
      ← stay,
    )
    (tallied _ _ _ _ _ (c.enter_freed.ensures x e) refl)
