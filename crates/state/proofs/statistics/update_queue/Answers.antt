-- `update_queue` meets its contract, by cases on a clock move since.
use Rattle.state.specs.All.{update_queue}
use Rattle.state.proofs.statistics.update_queue.Goals as goal

pub returns-then-behind : goal.returns-then-behind
returns-then-behind c = unfold update_queue in rw (← c.behind.ensures, c.if-behind.true) c.store_queue.ensures

pub returns-else-behind : goal.returns-else-behind
returns-else-behind c = unfold update_queue in rw (← c.behind.ensures, c.if-behind.false)
