-- `joined_wait` meets its contract: code, server and back count.
use Rattle.machine.specs.All.{refl}
use Rattle.parse_values.proofs.Binds.{stores-passed}
use Rattle.program.proofs.Steps.{joined-stop, joined-kept}
use Rattle.program.proofs.joined_wait.Goals as goal

pub returns-in_err-q : goal.returns-in_err-q
returns-in_err-q c = stores-passed c.from_residual.ensures.1 (joined-stop _ _ _ c.in_err-q.ensures _ refl)

pub returns : goal.returns
returns c = joined-kept _ _ _ c.in_ok-q.ensures refl c.single.ensures
