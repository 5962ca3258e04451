-- `branch` meets its contract: a comparison and a target.
use Rattle.machine.specs.All.{refl}
use Rattle.parse_values.proofs.Binds.{stores-passed}
use Rattle.program.proofs.Steps.{branch-stop, branch_kept}
use Rattle.program.proofs.branch.Goals as goal

pub returns-in_err-q : goal.returns-in_err-q
returns-in_err-q c = stores-passed c.from_residual.ensures.1 (branch-stop _ _ _ c.in_err-q.ensures _ refl)

pub returns : goal.returns
returns c = branch_kept _ _ _ c.in_ok-q.ensures refl c.single.ensures
