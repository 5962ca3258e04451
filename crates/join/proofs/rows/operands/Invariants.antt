-- `join::rows::operands` meets its contract. The invariant: the operands that are left, written behind what stands, give the whole.
use Rattle.machine.specs.All.{◌+◌, ◌≡◌, drop}
use Rattle.codec.specs.Writing.{written}
use Rattle.join_laws.specs.Rows.{puts}
use Rattle.join.proofs.Forming.{forms_from}
use Rattle.join.proofs.rows.operands.Given as goal

abbrev pub invariant-loop-i : goal.invariant-loop-i
invariant-loop-i l =
    puts (forms_from l.tables l.by (l.at + l.i) (drop l.i l.forms)) (written l.next l.out)
    ≡ puts (forms_from l.tables l.by l.at l.forms) (written l.to l.initial.out)
