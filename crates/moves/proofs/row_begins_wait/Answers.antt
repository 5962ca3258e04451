-- `row_begins_wait` meets its contract: the fresh serial is written, then the row comes onto the list.
use Rattle.moves.specs.{with_outcome, begin_wait}
use Rattle.moves.proofs.row_begins_wait.Goals as goal

pub returns : goal.returns
unfolding with_outcome begin_wait
returns c =
    λ x e f. rw (e, f, c.line_up.ensures, c.write.ensures, c.saturating_add.ensures)
