-- `sample_times` meets its contract. The loop's invariant: what the times that are left give is what all times give.
use Rattle.machine.specs.All.{◌-◌}
use Rattle.decode.proofs.Lists.{Skipping}
use Rattle.decode.proofs.sample_times.Given as goal

abbrev pub invariant-loop : goal.invariant-loop
invariant-loop l = Skipping l.s l.count l.at (l.count - l.counter) l.next
