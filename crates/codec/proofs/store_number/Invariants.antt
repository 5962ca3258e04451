-- `codec::store_number` meets its contract. The loop's invariant: with the groups that are left to store, the bytes are
-- those of the whole number; there are as many groups as `left`. The measure is `left`.
use Rattle.machine.specs.All.{◌≤◌, ◌≡◌, length, sets, upper}
use Rattle.codec.proofs.store_number.Given as goal

abbrev pub invariant-loop-left : goal.invariant-loop-left
invariant-loop-left l = (length l.out ≡ length l.initial.out) × (l.left ≤ l.initial.left) × (length (upper l.left l.above) ≡ l.left)
    × (sets l.out l.at (upper l.left l.above) ≡ sets l.initial.out l.at (upper l.initial.left l.initial.above))

abbrev pub decreases-loop-left : goal.decreases-loop-left
decreases-loop-left l = l.left
