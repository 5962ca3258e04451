-- `covrith_make_tape` meets its contract: the answer of `make`, case by case.
use Rattle.machine.specs.All.{◌∙◌}
use Rattle.covrith.proofs.Tapes.{made-bytes, made-nothing}
use Rattle.covrith.proofs.covrith_make_tape.Goals as goal

pub returns-in-Ok-clause-value : goal.returns-in-Ok-clause-value
returns-in-Ok-clause-value c = (made-bytes _ _ c.make.ensures.answered _ c.in-Ok.is).0

pub returns-in-Ok-clause-used_after : goal.returns-in-Ok-clause-used_after
returns-in-Ok-clause-used_after c = (made-bytes _ _ c.make.ensures.answered _ c.in-Ok.is).1

pub returns-in-Err-clause-value : goal.returns-in-Err-clause-value
returns-in-Err-clause-value c = c.number.ensures ∙ (made-nothing _ _ c.make.ensures.answered _ c.in-Err.is).0

pub returns-in-Err-clause-used_after : goal.returns-in-Err-clause-used_after
returns-in-Err-clause-used_after c = (made-nothing _ _ c.make.ensures.answered _ c.in-Err.is).1
