-- `simple::minus` meets its contract: a small number has its negative among the signed 32-bit numbers.
use Rattle.machine.specs.All.{◌∙◌}
use Rattle.evaluation.proofs.Signs.{back, minus-fits, minus-back}
use Rattle.evaluation.proofs.simple.minus.Goals as goal

pub overflow_sub-result : goal.overflow_sub-result
overflow_sub-result c =
    minus-fits _ _ (back _ c.small.type_inv ∙ c.small.ensures)

pub returns : goal.returns
returns c =
    minus-back _ _ (back _ c.small.type_inv ∙ c.small.ensures)
