-- `count_on` meets its contract, by cases on the count.
use Rattle.machine.specs.All.{eq-eqb, ne_eqb}
use Rattle.moves.specs.Motion.{moved}
use Rattle.flow_laws.specs.Gathering.{count_on}
use Rattle.flow.proofs.gathering.count_on.Goals as goal

pub returns-then-come-n : goal.returns-then-come-n
unfolding count_on moved
returns-then-come-n c = rw (eq-eqb _ _ c.if-come-n.true, ← c.release_on-y.ensures, ← c.row-k.ensures) c.end_on.ensures

pub returns : goal.returns
unfolding count_on moved
returns c = rw (ne_eqb _ _ c.if-come-n.false, ← c.write.ensures) (cc (c.end_on-2.ensures, c.row-k.ensures, c.scalars.ensures.same))
