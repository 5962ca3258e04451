-- `wake_whole` meets its contract: the rows, then the chain.
use Rattle.rows_laws.specs.All.{wake_whole}
use Rattle.rows.proofs.whole.wake_whole.Goals as goal

pub returns : goal.returns
unfolding wake_whole
returns c = cc
