-- `back_spot` meets its contract: the last cell, and from it the spot.
use Rattle.rows_laws.specs.All.{back_spot}
use Rattle.rows.proofs.lines.back_spot.Goals as goal

pub returns : goal.returns
unfolding back_spot
returns c = cc
