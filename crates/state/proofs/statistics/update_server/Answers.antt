-- `update_server` meets its contract, by cases on a clock move since.
use Rattle.state.specs.All.{update_server}
use Rattle.state.proofs.statistics.update_server.Goals as goal

pub returns-then-behind : goal.returns-then-behind
returns-then-behind c = unfold update_server in rw (← c.behind.ensures, c.if-behind.true) c.store_server.ensures

pub returns-else-behind : goal.returns-else-behind
returns-else-behind c = unfold update_server in rw (← c.behind.ensures, c.if-behind.false)
