-- `copy_parameters` meets its contract: the writes in order, of what was read.
use Rattle.rows_laws.specs.All.{copy_parameters}
use Rattle.rows.proofs.make.copy_parameters.Goals as goal

pub returns : goal.returns
unfolding copy_parameters
returns c =
    rw (
      c.write-4.ensures,
      c.write-3.ensures,
      c.write-2.ensures,
      c.write.ensures,
      c.read-d.ensures,
      c.read-c.ensures,
      c.read-b.ensures,
      c.read-a.ensures,
    )
