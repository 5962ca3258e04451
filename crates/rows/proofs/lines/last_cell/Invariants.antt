-- `last_cell` meets its contract. The invariant: the rest of the walk from here is the whole walk.
use Rattle.machine.specs.All.{◌-◌, ◌≡◌}
use Rattle.rows_laws.specs.All.{last_cell}
use Rattle.rows.proofs.lines.last_cell.Given as goal

abbrev pub invariant-loop : goal.invariant-loop
invariant-loop l = last_cell (1024 - l.counter) l.w l.k l.c l.found ≡ last_cell 1024 l.w l.k l.from l.from
