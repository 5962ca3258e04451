-- `delay` meets its contract: the sample, then the row.
use Rattle.moves.specs.Motion.{moved}
use Rattle.flow_laws.specs.Kinds.{delay_rows}
use Rattle.flow.proofs.advancing.delay.Goals as goal

pub returns : goal.returns
unfolding delay_rows moved
returns c = rw (
  ← c.use_time.ensures,
  ← c.scalars.ensures.same,
  ← c.saturating_add-time.ensures,
  c.scalars.ensures.same,
  ← c.send_on.ensures,
)
