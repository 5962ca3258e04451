-- `codec::read_groups` meets its contract. The loop's invariant: the answer is that of the groups still to come at `next`
-- behind `value`, and `value` leaves room for them.
use Rattle.machine.specs.All.{◌+◌, ◌*◌, ◌-◌, ◌^◌, ◌≤◌, ◌≡◌}
use Rattle.codec.proofs.Steps.{at-groups}
use Rattle.codec.proofs.read_groups.Given as goal

abbrev pub invariant-loop : goal.invariant-loop
invariant-loop l =
    ((l.value + 1) * 128 ^ (l.limit - l.counter) ≤ 128 ^ 9)
    × (at-groups l.s l.most (l.limit - l.counter) l.value l.next ≡ at-groups l.s l.most l.limit 0 l.at)
