-- `join::rows::shape_by` meets its contract: a number that is no kind has no line of its own in `shape_of`.
use Rattle.join.proofs.Forming.{no-kind}
use Rattle.join.proofs.rows.shape_by.Goals as goal

pub returns-in-None-clause-digits : goal.returns-in-None-clause-digits
returns-in-None-clause-digits c = no-kind _ (rw c.in-None.is at c.of.ensures)
