-- `next_sample` meets its contract: the number where the tally says.
use Rattle.flow_laws.specs.Samples.{next_sample}
use Rattle.flow.proofs.samples.next_sample.Goals as goal

pub returns : goal.returns
unfolding next_sample
returns c = rw (← c.count-at.ensures) c.sample_at.ensures
