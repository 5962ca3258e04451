-- `begin_scalars` meets its contract: each scalar.
use Rattle.start.specs.{start_scalars}
use Rattle.start.proofs.begin_scalars.Goals as goal

pub returns : goal.returns
unfolding start_scalars
returns c =
    rw (c.narrow-c.ensures, c.none.ensures, c.of.ensures)
