-- `arrive` meets its contract. The invariant: the rest of the arrivals from here are all of them.
use Rattle.machine.specs.All.{◌+◌, ◌-◌, ◌≤◌, ◌≡◌}
use Rattle.rows_laws.specs.All.{arrive}
use Rattle.rows.proofs.clock.arrive.Given as goal

abbrev pub invariant-loop : goal.invariant-loop
invariant-loop l =
    record { rest : arrive (1024 - l.counter) l.due l.w l.s ≡ arrive 1024 l.due l.initial.w l.serial; given : l.s ≤ l.serial + l.counter }
