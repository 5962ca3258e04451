-- `capacities` meets its contract. The loop's invariant: the capacities from k on give what all capacities give.
use Rattle.machine.specs.All.{◌+◌, field}
use Rattle.parse_values.specs.Keeps.{number_shape}
use Rattle.decode.specs.{Capacity}
use Rattle.parse_values.proofs.Filled.{Leads}
use Rattle.decode.proofs.capacities.Given as goal

abbrev pub invariant-loop-k : goal.invariant-loop-k
invariant-loop-k l =
    Leads (number_shape 1 65535 1) Capacity (λ i. field l.s 3 1 65535) 1 (2560 + l.m.facilities)
    l.m.storages l.initial.q l.initial.tables l.k l.q l.tables
