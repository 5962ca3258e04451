-- `units` meets its contract: a storage, and units up to the capacity that stands in the tables.
use Rattle.machine.specs.All.{arith, refl}
use Rattle.parse_values.proofs.Binds.{stores-passed}
use Rattle.program.proofs.Steps.{units-stop, units-kept}
use Rattle.program.proofs.units.Goals as goal

pub returns-in_err-k : goal.returns-in_err-k
returns-in_err-k c = stores-passed c.from_residual.ensures.1 (units-stop _ c.args.m c.in_err-k.ensures.takes _ refl)

pub returns : goal.returns
returns c =
    units-kept _ c.args.m c.in_ok-k.ensures.takes _ refl (omega arith) refl c.single.ensures
