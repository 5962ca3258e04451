-- `sample_lists` meets its contract. The loop's invariant: what the lists from k on give is what all lists give.
use Rattle.decode.proofs.Lists.{Leading}
use Rattle.decode.proofs.sample_lists.Given as goal

abbrev pub invariant-loop-k : goal.invariant-loop-k
invariant-loop-k l = Leading l.s l.count l.initial.lists l.k l.next l.lists
