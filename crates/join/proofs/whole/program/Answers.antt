-- `join::whole::program` meets its contract.
use Rattle.join_laws.proofs.RowSteps.{program-whole}
use Rattle.join.proofs.whole.program.Goals as goal

pub returns : goal.returns
returns c =
    program-whole _ _ _ _ _ _ _ _ _
    c.both-p.ensures
    c.both-q.ensures
    c.both-r.ensures c.all_blocks.ensures
