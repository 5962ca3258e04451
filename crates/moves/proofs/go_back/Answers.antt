-- `go_back` meets its contract: the next block is written, the mark cleared.
use Rattle.moves.specs.{go_back}
use Rattle.moves.proofs.go_back.Goals as goal

pub returns : goal.returns
unfolding go_back
returns c =
    rw (
      c.set_returning.ensures,
      c.write.ensures,
      c.saturating_sub-next.ensures,
      c.read.ensures,
      c.row-row.ensures,
      c.of-y.ensures,
      c.scalars-y.ensures.same,
    )
