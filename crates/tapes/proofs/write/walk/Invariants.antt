-- `tapes::walk` meets its contract. The invariant: the lists that are left lead where all do.
use Rattle.machine.specs.All.{List, drop}
use Rattle.tapes_laws.specs.{Given.Listed, Tape.tape_numbers, Held.Rows}
use Rattle.tapes_laws.proofs.Walks.{Leads}
use Rattle.tapes.proofs.write.walk.Given as goal

abbrev pub invariant-loop-row : goal.invariant-loop-row
invariant-loop-row g l =
    (ls : List Listed) → Rows l.numbers l.rows ls
    → Leads g.S.Step.step (tape_numbers (drop l.row-index ls) l.r) (tape_numbers ls l.fn.state) l.tape l.at l.initial.tape 0
