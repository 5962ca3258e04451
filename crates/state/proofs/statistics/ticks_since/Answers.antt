-- `ticks_since` meets its contract: what the clock is ahead, at most so many.
use Rattle.machine.specs.All.{arith}
use Rattle.state.specs.All.{ticks_since}
use Rattle.state.proofs.statistics.ticks_since.Goals as goal

pub returns : goal.returns
unfolding ticks_since
returns c = rw (← c.count.ensures, ← c.saturating_sub-ticks.ensures) (c.min.ensures, omega (arith, c.min.ensures))
