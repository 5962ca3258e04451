-- `behind` meets its contract.
use Rattle.state.specs.All.{behind}
use Rattle.state.proofs.statistics.behind.Goals as goal

pub returns : goal.returns
unfolding behind
returns c = rw (← c.count.ensures, ← c.count-2.ensures)
