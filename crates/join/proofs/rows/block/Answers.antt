-- `join::rows::block` meets its contract.
use Rattle.join_laws.proofs.RowSteps.{block-whole}
use Rattle.join.proofs.rows.block.Goals as goal

pub returns : goal.returns
returns c =
    block-whole _ _ _ _ _ _ _ _ c.number-kind.ensures
    c.emit-next.ensures c.shape_by.ensures.digits
    c.operands.ensures
