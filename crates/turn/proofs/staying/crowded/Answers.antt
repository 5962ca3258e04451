-- `crowded` meets its contract.
use Rattle.turn_laws.specs.Staying.{crowded}
use Rattle.turn.proofs.staying.crowded.Goals as goal

pub returns-then-not-behind : goal.returns-then-not-behind
unfolding crowded
returns-then-not-behind c =
    rw (← c.server_of-v.ensures, ← c.index.ensures.same, ← c.if-not-behind.ensures) c.short.ensures

pub returns-else-not-behind : goal.returns-else-not-behind
unfolding crowded
returns-else-not-behind c =
    rw (← c.server_of-v.ensures, ← c.index.ensures.same, ← c.if-not-behind.ensures, c.if-not-behind.false)
