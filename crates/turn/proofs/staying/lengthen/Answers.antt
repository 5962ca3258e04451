-- `lengthen` meets its contract.
use Rattle.turn_laws.specs.Staying.{lengthened_by}
use Rattle.turn.proofs.staying.lengthen.Goals as goal

pub returns : goal.returns
unfolding lengthened_by
returns c =
    rw (c.set_count.ensures, c.saturating_add-m.ensures, c.count.ensures, c.index-at.ensures.same, c.server_of.ensures)
