-- `view::View::free` meets its contract.
use Rattle.machine.specs.All.{arith}
use Rattle.evaluation.specs.{free_units}
use Rattle.evaluation.proofs.view.View.free.Goals as goal

pub returns : goal.returns
unfolding free_units
returns c = omega arith
