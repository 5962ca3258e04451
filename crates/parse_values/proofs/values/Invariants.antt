-- `values` meets its contract. The loop's invariant: the values from k on give what all values give.
use Rattle.machine.specs.All.{value_field, in_value}
use Rattle.parse_values.specs.{value_shape, ProperValue, before_values}
use Rattle.parse_values.proofs.Filled.{Leads}
use Rattle.parse_values.proofs.values.Given as goal

abbrev pub invariant-loop-k : goal.invariant-loop-k
invariant-loop-k l =
    Leads value_shape ProperValue (λ i. value_field l.s (in_value l.s (before_values l.m) i)) 64 2048
    l.m.values l.initial.q l.initial.tables l.k l.q l.tables
