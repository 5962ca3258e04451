-- `queue_at` meets its contract: a number below 32 of what the tables hold.
use Rattle.machine.specs.All.{ℕ, ◌%◌, ap, arith}
use Rattle.values_queues_laws.specs.Queues.{queue_of}
use Rattle.values_queues.proofs.queues.queue_at.Goals as goal

pub returns : goal.returns
unfolding queue_of
returns c = record {
  queue = ap (λ (n : ℕ). n % 32) c.number.ensures;
  small = omega arith;
}
