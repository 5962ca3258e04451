-- `line_on` meets its contract. The invariant: it is amid those who come with row k, `Lining`.
use Rattle.turn_laws.proofs.Lining.{Lining}
use Rattle.turn.proofs.staying.line_on.Given as goal

abbrev pub invariant-loop-i : goal.invariant-loop-i
invariant-loop-i l = Lining l.block l.v l.m l.initial.work l.fn.k l.standing l.most l.work l.last l.serial l.i
