-- `goto` meets its contract: it goes to the block that the tables name.
use Rattle.machine.specs.All.{◌∙◌}
use Rattle.values_queues_laws.specs.Jumps.{goto_rows}
use Rattle.values_queues.proofs.jumps.goto.Goals as goal

pub returns : goal.returns
unfolding goto_rows
returns c =
    c.go_to.ensures ∙ rw c.number.ensures
