-- `time` meets its contract: the two fields that were read.
use Rattle.rows_laws.specs.All.{time_of}
use Rattle.rows.proofs.cells.time.Goals as goal

pub returns : goal.returns
unfolding time_of
returns c = cc
