-- `empty_list` meets its contract: the stores in order.
use Rattle.rows_laws.specs.All.{empty_list}
use Rattle.rows.proofs.make.empty_list.Goals as goal

pub returns : goal.returns
unfolding empty_list
returns c = cc
