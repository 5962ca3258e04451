-- `join::part::Part::capacities` meets its contract. The invariant: the capacities that are left, written behind what stands, give the whole.
use Rattle.machine.specs.All.{◌+◌, ◌-◌, ◌≡◌}
use Rattle.codec.specs.Writing.{written}
use Rattle.join_laws.specs.{Rows.puts, Whole.cell_row_lem}
use Rattle.join.proofs.part.Part.capacities.Given as goal

abbrev pub invariant-loop-k : goal.invariant-loop-k
invariant-loop-k l =
    puts (cell_row_lem l.tables (l.self.model.storages - l.k) (l.from + l.k)) (written l.next l.out)
    ≡ puts (cell_row_lem l.tables l.self.model.storages l.from) (written l.to l.initial.out)
