-- `join::nested::values` meets its contract. The invariant: the values that are left, written behind what stands, give the whole.
use Rattle.machine.specs.All.{◌-◌, ◌≤◌, ◌≡◌, length}
use Rattle.codec.specs.Writing.{written}
use Rattle.join_laws.specs.Rows.{value_rows, puts}
use Rattle.join.proofs.nested.values.Given as goal

abbrev pub invariant-loop-k : goal.invariant-loop-k
invariant-loop-k l =
    (length l.out ≡ length l.initial.out) × (l.k ≤ l.count)
    × (puts (value_rows l.tables l.by (l.count - l.k) l.k) (written l.next l.out) ≡ puts (value_rows l.tables l.by l.count 0) (written l.to l.initial.out))
