-- `tapes::walk_times` meets its contract. The invariant: the times that are left lead where all do.
use Rattle.machine.specs.All.{◌-◌, ◌≡◌}
use Rattle.tapes_laws.specs.{Source.Source, Source.times_of, Source.state_after, Held.Meant}
use Rattle.tapes_laws.proofs.Walks.{Leads}
use Rattle.tapes.proofs.write.walk_times.Given as goal

abbrev pub invariant-loop : goal.invariant-loop
invariant-loop g l =
    (l.end ≡ l.row.count)
    × ((s : Source) → Meant l.numbers l.row.distribution s
    → Leads g.S.Step.step (times_of s (l.row.count - l.counter) l.r) (times_of s l.row.count l.fn.state) l.tape l.at l.initial.tape l.fn.start
    × (state_after s (l.row.count - l.counter) l.r ≡ state_after s l.row.count l.fn.state))
