-- `hold_units` meets its contract: the steps in order.
use Rattle.machine.specs.All.{refl}
use Rattle.moves.proofs.MotionLaws.{tallied}
use Rattle.servers_laws.proofs.AtClock.{changed-at}
use Rattle.servers_laws.specs.Taking.{hold_units}
use Rattle.servers.proofs.taking.hold_units.Goals as goal

pub returns : goal.returns
unfolding hold_units
returns g c =
    λ x e t. rw (
      changed-at _ _ _ _ _ _ _ _ c.change_use.ensures t,
      ← c.keep_holder.ensures,
      ← c.check_wels.ensures,
    )
    (tallied _ _ _ _ _ (c.row_goes_on.ensures x e) refl)
