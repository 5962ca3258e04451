-- `join_at` meets its contract: the stores in order.
use Rattle.rows_laws.specs.All.{join_at, end_ready, end_at}
use Rattle.rows.proofs.whole.join_at.Goals as goal

pub returns : goal.returns
unfolding join_at end_ready end_at
returns c = cc
