-- `watch` meets its contract: the values, the marks, the blocks and the clock.
use Rattle.watch.proofs.Loops.{watched-by}
use Rattle.watch.proofs.reads.watch.Goals as goal

pub returns : goal.returns
returns c =
    watched-by _ _ _ _ _ _ _ _ c.store_own.ensures c.marks_of.ensures c.store_asked.ensures
    c.number.ensures c.store.ensures
