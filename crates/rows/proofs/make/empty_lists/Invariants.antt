-- `empty_lists` meets its contract. The invariant: those before this one are done.
use Rattle.machine.specs.All.{◌≡◌}
use Rattle.rows_laws.specs.All.{empty_lists}
use Rattle.rows.proofs.make.empty_lists.Given as goal

abbrev pub invariant-loop-p : goal.invariant-loop-p
invariant-loop-p l = l.w ≡ empty_lists l.p l.initial.w
