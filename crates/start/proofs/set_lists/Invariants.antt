-- `set_lists` meets its contract. The invariant: the first lists are set.
use Rattle.machine.specs.All.{◌≡◌}
use Rattle.start.specs.{lists_set}
use Rattle.start.proofs.set_lists.Given as goal

abbrev pub invariant-loop-l : goal.invariant-loop-l
invariant-loop-l l = l.tally ≡ lists_set l.l l.lists l.initial.tally
