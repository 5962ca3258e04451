-- `free_rows` meets its contract. The invariant: those before this one are done.
use Rattle.machine.specs.All.{◌≡◌}
use Rattle.rows_laws.specs.All.{free_rows}
use Rattle.rows.proofs.make.free_rows.Given as goal

abbrev pub invariant-loop-k : goal.invariant-loop-k
invariant-loop-k l = l.w ≡ free_rows l.k l.initial.w
