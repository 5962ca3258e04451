-- `join::whole::things` meets its contract.
use Rattle.join_laws.proofs.RowSteps.{things-whole}
use Rattle.join.proofs.whole.things.Goals as goal

pub returns : goal.returns
returns c =
    things-whole _ _ _ _ _ _ _ _ _ _ _
    c.both-p.ensures c.both-q.ensures c.first_shift.ensures c.values-r.ensures c.second_shift.ensures
    c.values.ensures
