-- `store_own` meets its contract. The invariant: the first k values are done.
use Rattle.machine.specs.All.{◌≡◌, length}
use Rattle.watch.specs.{own_stored}
use Rattle.watch.proofs.reads.store_own.Given as goal

abbrev pub invariant-loop-k : goal.invariant-loop-k
invariant-loop-k l = (l.tables ≡ own_stored l.values l.k l.initial.tables) × (length l.tables ≡ length l.initial.tables)
