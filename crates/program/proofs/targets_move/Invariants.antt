-- `targets_move` meets its contract. The loop's invariant: the answer is that of the rows from b on.
use Rattle.machine.specs.All.{◌*◌, ◌-◌, ◌≡◌}
use Rattle.program.specs.{targets_from}
use Rattle.program.proofs.targets_move.Given as goal

abbrev pub invariant-loop-b : goal.invariant-loop-b
invariant-loop-b l = targets_from l.tables l.blocks (l.blocks - l.b) (8 * l.b) ≡ targets_from l.tables l.blocks l.blocks 0
