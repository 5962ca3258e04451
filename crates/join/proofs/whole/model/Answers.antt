-- `join::whole::model` meets its contract.
use Rattle.join_laws.proofs.RowSteps.{model-whole}
use Rattle.join.proofs.whole.model.Goals as goal

pub returns : goal.returns
returns c =
    model-whole _ _ _ _ _ _ _ _ c.servers-p.ensures
    c.things-q.ensures c.program.ensures
