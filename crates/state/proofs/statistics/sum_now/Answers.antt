-- `sum_now` meets its contract.
use Rattle.state.specs.All.{sum_now}
use Rattle.state.proofs.statistics.sum_now.Goals as goal

pub returns : goal.returns
unfolding sum_now
returns c = rw (
  ← c.count-sum.ensures,
  ← c.count.ensures,
  ← c.ticks_since-ticks.ensures.0,
  ← c.product.ensures,
)
    c.saturating_add.ensures
