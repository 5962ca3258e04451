-- `see` meets its contract.
use Rattle.state.specs.All.{see}
use Rattle.state.proofs.statistics.see.Goals as goal

pub returns : goal.returns
returns c = unfold see in rw (c.set_count-2.ensures, c.set_count.ensures, c.count-moves.ensures)
