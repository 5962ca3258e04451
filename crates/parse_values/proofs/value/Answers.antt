-- `values::value` meets its contract: a sum, in which four brackets may open.
use Rattle.parse_values.proofs.Steps.{value-kept}
use Rattle.parse_values.proofs.value.Goals as goal

pub returns : goal.returns
returns c = value-kept _ _ _ c.sum.ensures
