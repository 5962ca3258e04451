-- `model` meets its contract: the three parts of the model.
use Rattle.machine.specs.All.{refl}
use Rattle.decode.proofs.Stages.{stage-passed}
use Rattle.decode.proofs.Models.{model-stop, model-stop-2, model-kept}
use Rattle.decode.proofs.model.Goals as goal

pub returns-in_err-a : goal.returns-in_err-a
returns-in_err-a c = stage-passed c.from_residual.ensures.1 (model-stop _ c.in_err-a.ensures.stage _ refl)

pub returns-in_err-b : goal.returns-in_err-b
returns-in_err-b c =
    stage-passed c.from_residual-in_err-b.ensures.1
    (model-stop-2 _ c.in_ok-a.ensures.stage refl c.in_err-b.ensures.stage _ refl)

pub returns : goal.returns
returns c = model-kept _ c.in_ok-a.ensures.stage refl c.in_ok-b.ensures.stage refl c.program.ensures
