-- `stop` meets its contract: two scalars are set.
use Rattle.moves.specs.{stopped}
use Rattle.moves.proofs.stop.Goals as goal

pub returns : goal.returns
unfolding stopped
returns c = rw (c.at-y.ensures, c.of-y.ensures)
