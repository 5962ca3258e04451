-- `copying::copy` meets its contract. The invariant: the bytes so far stand there.
use Rattle.machine.specs.All.{◌≡◌, length, take, sets}
use Rattle.join.proofs.copying.copy.Given as goal

abbrev pub invariant-loop-i : goal.invariant-loop-i
invariant-loop-i l = (length l.out ≡ length l.initial.out) × (l.out ≡ sets l.initial.out 0 (take l.i l.from))
