-- `free_row` meets its contract: insertion at the head of the free rows.
use Rattle.rows_laws.specs.All.{free_row}
use Rattle.rows.proofs.make.free_row.Goals as goal

pub returns : goal.returns
unfolding free_row
returns c = cc
