-- `begin` meets its contract: buffers and scalars, then the blocks.
use Rattle.start.specs.{start_rows}
use Rattle.start.proofs.begin.Goals as goal

pub returns : goal.returns
unfolding start_rows
returns c =
    rw (
      ← c.min-blocks.ensures,
      ← c.begin_scalars-x.ensures,
      ← c.set_lists.ensures,
      ← c.initialise.ensures,
    ) c.begin_blocks.ensures
