-- `assign` meets its contract: a parameter and a term.
use Rattle.machine.specs.All.{refl}
use Rattle.parse_values.proofs.Binds.{stores-passed}
use Rattle.program.proofs.Steps.{assign-stop, assign-kept}
use Rattle.program.proofs.assign.Goals as goal

pub returns-in_err-q : goal.returns-in_err-q
returns-in_err-q c = stores-passed c.from_residual.ensures.1 (assign-stop _ _ _ c.in_err-q.ensures _ refl)

pub returns : goal.returns
returns c = assign-kept _ _ _ c.in_ok-q.ensures refl c.block_term.ensures
