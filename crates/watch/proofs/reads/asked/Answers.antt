-- `asked` meets its contract: the entries first, then what else the block changes.
use Rattle.machine.specs.All.{eq-eqb, ne_eqb}
use Rattle.watch.specs.{asked_of}
use Rattle.watch.proofs.reads.asked.Goals as goal

pub returns-then-number-ne0 : goal.returns-then-number-ne0
unfolding asked_of
returns-then-number-ne0 c =
    rw (← c.number.ensures, ne_eqb _ 0 c.if-number-ne0.true)

pub returns : goal.returns
unfolding asked_of
returns c =
    rw (← c.number.ensures, eq-eqb _ 0 c.if-number-ne0.false, ← c.changed.ensures) c.number-2.ensures
