-- `use_time` meets its contract: the two numbers of the list.
use Rattle.flow_laws.specs.Samples.{use_time}
use Rattle.flow.proofs.samples.use_time.Goals as goal

pub returns : goal.returns
unfolding use_time
returns c =
    rw (c.set_count-2.ensures, c.set_count.ensures, c.saturating_sub.ensures, c.count-left.ensures)
