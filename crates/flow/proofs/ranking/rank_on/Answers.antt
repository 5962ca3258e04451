-- `rank_on` meets its contract: on, the priority, then REL.
use Rattle.moves.specs.Motion.{moved}
use Rattle.flow_laws.specs.Kinds.{parked, rank_on}
use Rattle.flow.proofs.ranking.rank_on.Goals as goal

pub returns : goal.returns
unfolding rank_on parked moved
returns c = rw (← c.go_on-y.ensures, ← c.row-k.ensures, ← c.write.ensures, ← c.to_ready-z.ensures)
