-- `play` meets its contract: the start, then the turns. Assumes nothing.
use Rattle.engine_laws.proofs.TurnsLaws.{turns-begun}
use Rattle.engine.proofs.finish.play.Goals as goal

pub returns : goal.returns
returns c =
    turns-begun _ _ _ _ _ _ _ _ _ _ _ c.turns.ensures c.begin-x.ensures
