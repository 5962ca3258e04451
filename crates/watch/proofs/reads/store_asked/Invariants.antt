-- `store_asked` meets its contract. The invariant: the first b blocks are done.
use Rattle.machine.specs.All.{◌≡◌, length}
use Rattle.watch.specs.{asked_stored}
use Rattle.watch.proofs.reads.store_asked.Given as goal

abbrev pub invariant-loop-b : goal.invariant-loop-b
invariant-loop-b l = (l.tables ≡ asked_stored l.marks l.b l.initial.tables) × (length l.tables ≡ length l.initial.tables)
