-- `join::whole::all_blocks` meets its contract.
use Rattle.join_laws.proofs.RowSteps.{all_blocks}
use Rattle.join.proofs.whole.all_blocks.Goals as goal

pub returns : goal.returns
returns c =
    all_blocks _ _ _ _ _ _ _ _ _ c.first_shift.ensures
    c.blocks-p.ensures c.second_shift.ensures
    c.blocks-2.ensures
