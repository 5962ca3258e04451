-- `row_goes_to` meets its contract: the next block is written, the mark cleared.
use Rattle.moves.specs.{with_outcome, go_to}
use Rattle.moves.proofs.row_goes_to.Goals as goal

pub returns : goal.returns
unfolding with_outcome go_to
returns c =
    λ x e. rw (e, c.set_returning.ensures, c.write.ensures)
