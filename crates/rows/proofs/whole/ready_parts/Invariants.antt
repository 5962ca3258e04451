-- `ready_parts` meets its contract. The invariant: what is left to do from here is all of it.
use Rattle.machine.specs.All.{◌≡◌}
use Rattle.rows_laws.specs.All.{part_count, ready_parts}
use Rattle.rows.proofs.whole.ready_parts.Given as goal

abbrev pub invariant-loop-c : goal.invariant-loop-c
invariant-loop-c l = ready_parts l.c l.w l.p l.left ≡ ready_parts part_count l.initial.w l.p l.n
