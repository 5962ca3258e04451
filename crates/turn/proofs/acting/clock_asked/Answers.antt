-- `clock_asked` meets its contract, by cases on whether the clock moved.
use Rattle.machine.specs.All.{eq-eqb, ne_eqb}
use Rattle.turn_laws.specs.Turn.{clock_asks}
use Rattle.turn.proofs.acting.clock_asked.Goals as goal

pub returns-then-before-after : goal.returns-then-before-after
unfolding clock_asks
returns-then-before-after c =
    rw (ne_eqb _ _ c.if-before-after.true, ← c.number.ensures)

pub returns-else-before-after : goal.returns-else-before-after
unfolding clock_asks
returns-else-before-after c =
    rw (eq-eqb _ _ c.if-before-after.false)
