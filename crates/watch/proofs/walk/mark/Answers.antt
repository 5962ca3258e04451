-- `mark` meets its contract: a store at the cell.
use Rattle.machine.specs.All.{◌∙◌}
use Rattle.watch.proofs.walk.mark.Goals as goal

pub returns : goal.returns
returns c =
    c.store.ensures ∙ rw c.cell.ensures
