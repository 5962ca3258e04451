-- `well_placed` meets its contract. The loop's invariant: the answer is that of the rows from b on.
use Rattle.machine.specs.All.{◌*◌, ◌-◌, true, ◌≡◌}
use Rattle.program.specs.{placed_from}
use Rattle.program.proofs.well_placed.Given as goal

abbrev pub invariant-loop-b : goal.invariant-loop-b
invariant-loop-b l = placed_from l.tables (l.blocks - l.b) (8 * l.b) l.left ≡ placed_from l.tables l.blocks 0 true
