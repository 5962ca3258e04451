-- `join::whole::servers` meets its contract.
use Rattle.machine.specs.All.{◌∙◌}
use Rattle.join_laws.proofs.RowSteps.{servers-whole}
use Rattle.join.proofs.whole.servers.Goals as goal

pub returns : goal.returns
returns c =
    servers-whole _ _ _ _ _ _ _ _ _ _ _
    (c.from.ensures ∙ c.edition.ensures) c.write_number-p.ensures c.both-q.ensures c.both-r.ensures
    c.capacities-s.ensures c.capacities.ensures
