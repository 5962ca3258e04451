-- `reach_value` meets its contract, by cases on whether the value is marked.
use Rattle.machine.specs.All.{ap, eq-eqb, ne_eqb}
use Rattle.watch.specs.{Walked, walked, reach_value}
use Rattle.watch.proofs.reads.reach_value.Goals as goal

pub returns-then-number-eq0 : goal.returns-then-number-eq0
unfolding reach_value
returns-then-number-eq0 c =
    rw (← c.number.ensures, eq-eqb _ 0 c.if-number-eq0.true)

pub returns : goal.returns
unfolding reach_value walked
returns c =
    rw (← c.number.ensures, ne_eqb _ 0 c.if-number-eq0.false, ← c.number-count.ensures)
    (ap (λ (w : Walked). w.marks) c.terms.ensures)
