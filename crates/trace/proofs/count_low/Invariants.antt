-- `trace::count_low` meets its contract. The invariants: the groups so far are counted, and the bytes so far behind the words.
use Rattle.machine.specs.All.{◌+◌, ◌≡◌, take, count_low}
use Rattle.trace.proofs.Counting.{in_groups}
use Rattle.trace.proofs.count_low.Given as goal

abbrev pub invariant-loop-group : goal.invariant-loop-group
invariant-loop-group l = l.count ≡ l.initial.count + in_groups (take l.group-index l.groups)

abbrev pub invariant-loop-b : goal.invariant-loop-b
invariant-loop-b l = l.count ≡ l.initial.count + count_low (take l.b-index l.ends)
