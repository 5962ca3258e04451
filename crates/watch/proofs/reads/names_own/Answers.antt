-- `names_own` meets its contract: the value alone is marked, and what it reaches.
use Rattle.machine.specs.All.{◌∙◌}
use Rattle.watch.specs.{own_of}
use Rattle.watch.proofs.reads.names_own.Goals as goal

pub returns : goal.returns
unfolding own_of
returns c =
    c.number.ensures ∙ rw (c.reach.ensures, c.store.ensures)
