-- `arrive_row` meets its contract: the steps in order.
use Rattle.rows_laws.specs.All.{arrive_row}
use Rattle.rows.proofs.clock.arrive_row.Goals as goal

pub returns : goal.returns
unfolding arrive_row
returns c = cc
