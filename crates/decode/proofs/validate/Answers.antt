-- `validate` meets its contract: the number of what `decode` answers.
use Rattle.machine.specs.All.{refl, ◌∙◌}
use Rattle.decode.proofs.Answers.{refusal-of}
use Rattle.decode.proofs.validate.Goals as goal

pub returns-in-Err : goal.returns-in-Err
returns-in-Err c = c.number.ensures ∙ (refusal-of _ _ _ _ _ c.in-Err.ensures).0 _ refl

pub returns-in-Ok : goal.returns-in-Ok
returns-in-Ok c = (refusal-of _ _ _ _ _ c.in-Ok.ensures).1 _ refl
