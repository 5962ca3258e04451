-- `watched` meets its contract: a code, and a facility or a storage by it.
use Rattle.machine.specs.All.{refl}
use Rattle.parse_values.proofs.Binds.{stores-passed}
use Rattle.program.proofs.Steps.{watched-stop, watched-facility, watched-storage}
use Rattle.program.proofs.watched.Goals as goal

pub returns-in_err-code : goal.returns-in_err-code
returns-in_err-code c = stores-passed c.from_residual.ensures.1 (watched-stop _ _ c.in_err-code.ensures.takes _ refl)

pub returns-then-code-le2 : goal.returns-then-code-le2
returns-then-code-le2 c = watched-facility _ _ c.in_ok-code.ensures.takes refl c.if-code-le2.true c.single.ensures

pub returns : goal.returns
returns c = watched-storage _ _ c.in_ok-code.ensures.takes refl c.if-code-le2.false c.single-2.ensures
