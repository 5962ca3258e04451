-- `newborn` meets its contract: the description, then the parameters.
use Rattle.rows_laws.specs.All.{newborn_at}
use Rattle.rows.proofs.make.newborn.Goals as goal

pub returns : goal.returns
unfolding newborn_at
returns c =
    rw (c.clear_parameters.ensures, c.describe.ensures)
