-- `count_move` meets its contract.
use Rattle.clock.specs.{count_move}
use Rattle.clock.proofs.taking.count_move.Goals as goal

pub returns : goal.returns
unfolding count_move
returns c =
    rw (c.set_count.ensures, c.saturating_add-moves.ensures, c.count.ensures)
