-- `held_by_all` meets its contract, by cases on whether a side names a parameter.
use Rattle.values_queues_laws.specs.Waits.{held_by_all}
use Rattle.values_queues.proofs.sides.held_by_all.Goals as goal

pub returns-then-names_own : goal.returns-then-names_own
unfolding held_by_all
returns-then-names_own c = rw (← c.names_own.ensures, c.if-names_own.true)

pub returns-then-names_own-2 : goal.returns-then-names_own-2
unfolding held_by_all
returns-then-names_own-2 c =
    rw (← c.names_own.ensures, c.if-names_own.false, ← c.names_own-2.ensures, c.if-names_own-2.true)

pub returns : goal.returns
unfolding held_by_all
returns c =
    rw (← c.names_own.ensures, c.if-names_own.false, ← c.names_own-2.ensures, c.if-names_own-2.false)
    c.compare_at.ensures
