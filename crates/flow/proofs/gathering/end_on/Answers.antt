-- `end_on` meets its contract: the row is free, and the scalars.
use Rattle.flow_laws.specs.Gathering.{end_on}
use Rattle.flow.proofs.gathering.end_on.Goals as goal

pub returns : goal.returns
unfolding end_on
returns c = rw (← c.saturating_add.ensures, ← c.free_row.ensures, c.of-y.ensures)
