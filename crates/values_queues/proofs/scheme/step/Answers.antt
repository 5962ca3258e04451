-- `step` meets its contract: it passes or keeps the row, as the test says.
use Rattle.machine.specs.All.{◌∙◌}
use Rattle.values_queues.proofs.scheme.step.Goals as goal

pub returns : goal.returns
returns c =
    record {
      cell = c.pass.ensures.cell ∙ rw c.leaves-moves.ensures;
      rows = c.pass.ensures.rows ∙ rw c.leaves-moves.ensures;
    }
