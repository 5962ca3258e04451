-- `initialise` meets its contract: the loops in order, the heap emptied between.
use Rattle.rows_laws.specs.All.{initial}
use Rattle.rows.proofs.make.initialise.Goals as goal

pub returns : goal.returns
unfolding initial
returns c =
    rw (c.free_rows.ensures, c.loose_rows.ensures, c.set.ensures, c.empty_lists.ensures)
