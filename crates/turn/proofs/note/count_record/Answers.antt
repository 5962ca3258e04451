-- `count_record` meets its contract: one store.
use Rattle.turn_laws.specs.Note.{count_record}
use Rattle.turn.proofs.note.count_record.Goals as goal

pub returns : goal.returns
unfolding count_record
returns c =
    rw (c.set_count.ensures, c.saturating_add-n.ensures, c.count.ensures, c.cell-at.ensures)
