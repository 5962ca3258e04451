-- `tapes::rows_of` meets its contract. The invariant: the lists so far are held in front.
use Rattle.machine.specs.All.{◌≤◌, length}
use Rattle.tapes_laws.proofs.Lists.{Filling}
use Rattle.tapes.proofs.given.rows_of.Given as goal

abbrev pub invariant-loop-k : goal.invariant-loop-k
invariant-loop-k l = (16 ≤ length l.rows) × Filling l.numbers l.lists l.k l.rows
