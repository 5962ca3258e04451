-- `columns::place::write_columns` meets its contract. The loop's invariant: what the records that are left give is what all records give.
use Rattle.machine.specs.All.{◌-◌, ◌≡◌, length}
use Rattle.columns_laws.specs.Walks.{place_all}
use Rattle.columns.proofs.place.write_columns.Given as goal

abbrev pub invariant-loop : goal.invariant-loop
invariant-loop l =
    (length l.out ≡ length l.initial.out)
    × (place_all (l.count - l.counter) l.s l.t l.out ≡ place_all l.count l.s l.initial.t l.initial.out)
