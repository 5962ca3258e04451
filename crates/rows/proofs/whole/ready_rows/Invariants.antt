-- `ready_rows` meets its contract. The invariant: the first rows of the part are done and counted.
use Rattle.machine.specs.All.{◌≤◌, ◌≡◌}
use Rattle.rows_laws.specs.All.{ready_rows, ready_count}
use Rattle.rows.proofs.whole.ready_rows.Given as goal

abbrev pub invariant-loop-i : goal.invariant-loop-i
invariant-loop-i l =
    record { rows : l.w ≡ ready_rows l.i l.initial.w l.p l.from; count : l.n ≡ ready_count l.i l.initial.w l.p l.from; small : l.n ≤ l.i }
