-- `set_time` meets its contract: the two writes, one after the other.
use Rattle.rows_laws.specs.All.{set_time}
use Rattle.rows.proofs.cells.set_time.Goals as goal

pub returns : goal.returns
unfolding set_time
returns c = cc
