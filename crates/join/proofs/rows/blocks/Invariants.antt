-- `join::rows::blocks` meets its contract. The invariant: the blocks that are left, written behind what stands, give the whole.
use Rattle.machine.specs.All.{◌-◌, ◌≤◌, ◌≡◌, length}
use Rattle.codec.specs.Writing.{written}
use Rattle.join_laws.specs.Rows.{block_rows, puts}
use Rattle.join.proofs.rows.blocks.Given as goal

abbrev pub invariant-loop-b : goal.invariant-loop-b
invariant-loop-b l =
    (length l.out ≡ length l.initial.out) × (l.b ≤ l.count)
    × (puts (block_rows l.tables l.by (l.count - l.b) l.b) (written l.next l.out) ≡ puts (block_rows l.tables l.by l.count 0) (written l.to l.initial.out))
