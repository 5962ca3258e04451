-- `priority` meets its contract: the operand, then the row.
use Rattle.flow_laws.specs.Kinds.{priority_rows}
use Rattle.flow.proofs.ranking.priority.Goals as goal

pub returns : goal.returns
unfolding priority_rows
returns c =
    rw (← c.number-p.ensures) c.rank_on.ensures
