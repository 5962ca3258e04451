-- `compared` meets its contract: a term, a relation and a term.
use Rattle.machine.specs.All.{refl}
use Rattle.parse_values.proofs.Binds.{stores-passed}
use Rattle.program.proofs.Steps.{compared-stop, compared-stop-2, compared-kept}
use Rattle.program.proofs.compared.Goals as goal

pub returns-in_err-left : goal.returns-in_err-left
returns-in_err-left c = stores-passed c.from_residual.ensures.1 (compared-stop _ _ c.in_err-left.ensures _ refl)

pub returns-in_err-q : goal.returns-in_err-q
returns-in_err-q c =
    stores-passed c.from_residual-in_err-q.ensures.1 (compared-stop-2 _ _ c.in_ok-left.ensures refl c.in_err-q.ensures _ refl)

pub returns : goal.returns
returns c = compared-kept _ _ c.in_ok-left.ensures refl c.in_ok-q.ensures refl c.block_term-2.ensures
