-- `tapes::count_at` meets its contract: past the end there is no number.
use Rattle.machine.specs.All.{◌∙◌}
use Rattle.tapes_laws.proofs.Reading.{counted-past, counted-there}
use Rattle.tapes.proofs.given.count_at.Goals as goal

pub returns-then-numbers-at : goal.returns-then-numbers-at
returns-then-numbers-at c = counted-past _ _ _ c.if-numbers-at.true

pub returns : goal.returns
returns c = c.count.ensures ∙ counted-there _ _ _
