-- `join_ready` meets its contract: the two cells are read first.
use Rattle.rows_laws.specs.All.{join_ready}
use Rattle.rows.proofs.whole.join_ready.Goals as goal

pub returns : goal.returns
unfolding join_ready
returns c = cc
