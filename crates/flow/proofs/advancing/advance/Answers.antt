-- `advance` meets its contract: by cases on the times left.
use Rattle.machine.specs.All.{eq-eqb, ne_eqb}
use Rattle.flow_laws.specs.Kinds.{advance_rows}
use Rattle.flow.proofs.advancing.advance.Goals as goal

pub returns-then-times_left-eq0 : goal.returns-then-times_left-eq0
unfolding advance_rows
returns-then-times_left-eq0 c = rw (
  ← c.number-list.ensures,
  ← c.times_left.ensures,
  eq-eqb _ 0 c.if-times_left-eq0.true,
  c.stop.ensures,
  c.scalars.ensures.same,
)

pub returns : goal.returns
unfolding advance_rows
returns c = rw (← c.number-list.ensures, ← c.times_left.ensures, ne_eqb _ 0 c.if-times_left-eq0.false)
    c.advance_next.ensures
