-- `copy` meets its contract: the description, then the parameters.
use Rattle.rows_laws.specs.All.{copy_at}
use Rattle.rows.proofs.make.copy.Goals as goal

pub returns : goal.returns
unfolding copy_at
returns c =
    rw (← c.read-standing.ensures, ← c.read-family.ensures, c.copy_parameters.ensures, c.describe.ensures)
