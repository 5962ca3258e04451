-- `describe` meets its contract: the writes in order.
use Rattle.rows_laws.specs.All.{describe}
use Rattle.rows.proofs.make.describe.Goals as goal

pub returns : goal.returns
unfolding describe
returns c =
    rw (
      c.write-5.ensures,
      c.set_time.ensures,
      c.write-4.ensures,
      c.write-3.ensures,
      c.write-2.ensures,
      c.write.ensures,
    )
