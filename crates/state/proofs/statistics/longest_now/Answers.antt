-- `longest_now` meets its contract, by cases on a clock move since.
use Rattle.state.specs.All.{longest_now}
use Rattle.state.proofs.statistics.longest_now.Goals as goal

pub returns-then-behind : goal.returns-then-behind
unfolding longest_now
returns-then-behind c =
    rw (← c.behind.ensures, c.if-behind.true, ← c.count.ensures, ← c.count-then-behind.ensures) c.max.ensures

pub returns : goal.returns
unfolding longest_now
returns c = rw (← c.behind.ensures, c.if-behind.false) c.count-2.ensures
