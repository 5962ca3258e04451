-- `groups_whole` meets its contract. The loop's invariant: the answer is that of the rows from b on, behind so many waits.
use Rattle.machine.specs.All.{◌*◌, ◌-◌, ◌≤◌, ◌≡◌}
use Rattle.program.specs.{joined_from}
use Rattle.program.proofs.groups_whole.Given as goal

abbrev pub invariant-loop-b : goal.invariant-loop-b
invariant-loop-b l =
    (l.waits ≤ l.b) × (joined_from l.tables (l.blocks - l.b) (8 * l.b) l.waits ≡ joined_from l.tables l.blocks 0 0)
