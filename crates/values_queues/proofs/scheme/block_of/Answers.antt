-- `block_of` meets its contract.
use Rattle.machine.specs.All.{arith}
use Rattle.values_queues_laws.specs.Scheme.{block_of}
use Rattle.values_queues.proofs.scheme.block_of.Goals as goal

pub returns : goal.returns
unfolding block_of
returns c = record {
  block = rw (c.saturating_sub-i.ensures, c.read.ensures);
  most = omega arith;
}
