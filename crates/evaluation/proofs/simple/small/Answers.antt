-- `simple::small` meets its contract.
use Rattle.machine.specs.All.{◌∙◌}
use Rattle.evaluation.proofs.{Parts.small-from, Signs.back}
use Rattle.evaluation.proofs.simple.small.Goals as goal

pub returns : goal.returns
returns c = back _ c.unwrap_or.type_inv ∙ c.unwrap_or.ensures ∙ small-from _ _ c.try_from.ensures
