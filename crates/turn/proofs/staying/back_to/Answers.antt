-- `back_to` meets its contract, by cases on the first of REL.
use Rattle.machine.specs.All.{lt-ltb, le-ltb, eq-eqb, ne_eqb}
use Rattle.turn_laws.specs.Staying.{back_to}
use Rattle.turn.proofs.staying.back_to.Goals as goal

pub returns-in_default : goal.returns-in_default
unfolding back_to
returns-in_default c =
    rw (le-ltb _ 1024 c.in_default.ensures)

pub returns-then-read-ne1 : goal.returns-then-read-ne1
unfolding back_to
returns-then-read-ne1 c =
    rw (c.in-Some.ensures.0, lt-ltb _ 1024 c.in-Some.ensures.1, ← c.read.ensures, ne_eqb _ 1 c.if-read-ne1.true)

pub returns : goal.returns
unfolding back_to
returns c =
    rw (c.in-Some.ensures.0, lt-ltb _ 1024 c.in-Some.ensures.1, ← c.read.ensures, eq-eqb _ 1 c.if-read-ne1.false)
    c.read-2.ensures
