-- `generate` meets its contract: by cases on the times left.
use Rattle.machine.specs.All.{eq-eqb, ne_eqb}
use Rattle.moves.specs.Motion.{moved}
use Rattle.flow_laws.specs.Kinds.{generate_rows}
use Rattle.flow.proofs.generating.generate.Goals as goal

pub returns-then-times_left-eq0 : goal.returns-then-times_left-eq0
unfolding generate_rows moved
returns-then-times_left-eq0 c =
    rw (← c.number-list.ensures, ← c.times_left.ensures, eq-eqb _ 0 c.if-times_left-eq0.true, ← c.go_on.ensures)

pub returns : goal.returns
unfolding generate_rows
returns c =
    rw
    (← c.number-list.ensures, ← c.number-priority.ensures, ← c.times_left.ensures, ne_eqb _ 0 c.if-times_left-eq0.false)
    c.generate_next.ensures
