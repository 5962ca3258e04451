-- `after_taking` meets its contract: the block with its record, are they asked, the WS scheme.
use Rattle.turn_laws.proofs.Parts.{after-turned}
use Rattle.turn.proofs.acting.after_taking.Goals as goal

pub returns : goal.returns
returns c =
    after-turned _ _ _ _ _ _ _ _ _ _ _ _ _ _ _ _ c.next_of-block.ensures c.act_moving-y.ensures
    c.scheme_after.ensures
