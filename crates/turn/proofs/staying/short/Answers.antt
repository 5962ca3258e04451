-- `short` meets its contract: the units that are free beside those that the block takes.
use Rattle.turn_laws.specs.Staying.{short}
use Rattle.turn.proofs.staying.short.Goals as goal

pub returns : goal.returns
unfolding short
returns c =
    rw (
      c.number.ensures,
      c.saturating_sub-b.ensures,
      c.saturating_sub-free.ensures,
      c.capacity.ensures.capacity,
      c.in_use.ensures,
      c.server_of-v.ensures,
    )
