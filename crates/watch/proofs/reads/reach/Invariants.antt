-- `reach` meets its contract. The invariant: the rest from here is the whole.
use Rattle.machine.specs.All.{◌≡◌, length}
use Rattle.watch.specs.{reach}
use Rattle.watch.proofs.reads.reach.Given as goal

abbrev pub invariant-loop-k : goal.invariant-loop-k
invariant-loop-k l =
    (reach l.tables l.k l.marks ≡ reach l.tables l.values l.initial.marks) × (length l.marks ≡ length l.initial.marks)
