-- `clear_parameters` meets its contract: the writes in order.
use Rattle.rows_laws.specs.All.{clear_parameters}
use Rattle.rows.proofs.make.clear_parameters.Goals as goal

pub returns : goal.returns
unfolding clear_parameters
returns c =
    rw (c.write-4.ensures, c.write-3.ensures, c.write-2.ensures, c.write.ensures)
