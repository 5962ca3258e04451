-- `marks_of` meets its contract: the WAITIFs, then through the values.
use Rattle.machine.specs.All.{◌∙◌}
use Rattle.watch.proofs.reads.marks_of.Goals as goal

pub returns : goal.returns
returns c =
    c.reach.ensures ∙ rw c.waits.ensures
