-- `turn` meets its contract: the taking, and what follows it.
use Rattle.turn_laws.proofs.Parts.{turned}
use Rattle.turn.proofs.acting.turn.Goals as goal

pub returns : goal.returns
returns c =
    turned _ _ _ _ _ _ _ _ _ _ _ c.take-y.ensures c.after_taking.ensures
