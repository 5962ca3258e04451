-- By cases on what decoding tells.
use Rattle.machine.specs.All.{◌∙◌}
use Rattle.runmodel.proofs.Counting.{header-of}
use Rattle.runmodel.proofs.printing.header.Goals as goal

pub returns : goal.returns
returns c = c.unwrap_or.ensures ∙ header-of _ _ _ _ _ _ c.decode.ensures c.empty.ensures.nothing
