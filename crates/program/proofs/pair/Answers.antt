-- `pair` meets its contract: a number and a number.
use Rattle.machine.specs.All.{refl}
use Rattle.parse_values.proofs.Binds.{stores-passed}
use Rattle.program.proofs.Steps.{pair-stop, pair-kept}
use Rattle.program.proofs.pair.Goals as goal

pub returns-in_err-q : goal.returns-in_err-q
returns-in_err-q c = stores-passed c.from_residual.ensures.1 (pair-stop _ _ _ c.in_err-q.ensures.takes _ refl)

pub returns : goal.returns
returns c = pair-kept _ _ _ c.in_ok-q.ensures.takes refl c.single.ensures
