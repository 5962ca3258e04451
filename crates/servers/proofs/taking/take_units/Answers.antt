-- `take_units` meets its contract, by cases on the free units.
use Rattle.machine.specs.All.{refl, le-leb, lt-leb}
use Rattle.servers_laws.specs.Taking.{take_units}
use Rattle.servers.proofs.taking.take_units.Goals as goal

pub returns-then-b-saturating_sub : goal.returns-then-b-saturating_sub
unfolding take_units
returns-then-b-saturating_sub g c =
    λ x e f t. rw (
      e,
      ← c.capacity-all.ensures.capacity,
      ← c.in_use-units.ensures,
      ← c.saturating_sub.ensures,
      le-leb _ _ c.if-b-saturating_sub.true,
    )
    (rw c.number.ensures.same at (c.hold_units.ensures (record x { moving = c.args.k }) refl t))

pub returns : goal.returns
unfolding take_units
returns g c =
    λ x e f t. rw (
      ← c.capacity-all.ensures.capacity,
      ← c.in_use-units.ensures,
      ← c.saturating_sub.ensures,
      lt-leb _ _ c.if-b-saturating_sub.false,
      ← c.number-2.ensures,
    )
    (c.queue_up.ensures x e f t)
