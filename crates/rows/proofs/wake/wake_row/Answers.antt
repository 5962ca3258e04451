-- `wake_row` meets its contract: the steps in order.
use Rattle.rows_laws.specs.All.{wake_row}
use Rattle.rows.proofs.wake.wake_row.Goals as goal

pub returns : goal.returns
unfolding wake_row
returns c =
    rw (c.put.ensures, c.set_returning.ensures, c.remove_at.ensures)
