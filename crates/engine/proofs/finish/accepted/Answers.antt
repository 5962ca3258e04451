-- `accepted` meets its contract: the turns, the report, the results. Assumes nothing.
use Rattle.engine_laws.specs.Last.{last_rows}
use Rattle.engine_laws.proofs.TurnsLaws.{finishes}
use Rattle.engine.proofs.finish.accepted.Goals as goal

pub returns : goal.returns
unfolding last_rows
returns c =
    finishes _ _ _ _ _ _ _ _ _ _ _ c.play-x.ensures c.ended.ensures c.reported-n.ensures
