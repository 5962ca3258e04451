-- `waits` meets its contract. The invariant: the first b blocks are done.
use Rattle.machine.specs.All.{◌≡◌, length}
use Rattle.watch.specs.{waits_marks}
use Rattle.watch.proofs.reads.waits.Given as goal

abbrev pub invariant-loop-b : goal.invariant-loop-b
invariant-loop-b l =
    (l.marks ≡ waits_marks l.tables l.values l.b l.initial.marks) × (length l.marks ≡ length l.initial.marks)
