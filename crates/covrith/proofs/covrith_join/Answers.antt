-- `covrith_join` meets its contract: the answer of `join`, case by case.
use Rattle.machine.specs.All.{◌∙◌}
use Rattle.covrith.proofs.Joins.{joined-bytes, joined-nothing}
use Rattle.covrith.proofs.covrith_join.Goals as goal

pub returns-in-Ok-clause-value : goal.returns-in-Ok-clause-value
returns-in-Ok-clause-value c = (joined-bytes _ _ c.join.ensures.answered _ _ c.in-Ok.is).0

pub returns-in-Ok-clause-lengths_after : goal.returns-in-Ok-clause-lengths_after
returns-in-Ok-clause-lengths_after c = (joined-bytes _ _ c.join.ensures.answered _ _ c.in-Ok.is).1

pub returns-in-Err-clause-value : goal.returns-in-Err-clause-value
returns-in-Err-clause-value c = c.number.ensures ∙ (joined-nothing _ _ c.join.ensures.answered _ c.in-Err.is).0

pub returns-in-Err-clause-lengths_after : goal.returns-in-Err-clause-lengths_after
returns-in-Err-clause-lengths_after c = (joined-nothing _ _ c.join.ensures.answered _ c.in-Err.is).1
