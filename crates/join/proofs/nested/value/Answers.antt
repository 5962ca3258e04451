-- `join::nested::value` meets its contract.
use Rattle.join_laws.proofs.RowSteps.{value-whole}
use Rattle.join.proofs.nested.value.Goals as goal

pub returns : goal.returns
returns c =
    value-whole _ _ _ _ _ _ _ _ c.number-count.ensures
    c.emit-next.ensures c.items-whole.ensures
