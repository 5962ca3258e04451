-- `send_on` meets its contract: on, then the FEL.
use Rattle.moves.specs.Motion.{moved}
use Rattle.flow_laws.specs.Kinds.{parked, send_on}
use Rattle.flow.proofs.advancing.send_on.Goals as goal

pub returns : goal.returns
unfolding send_on parked moved
returns c = rw (← c.go_on-y.ensures, ← c.row-k.ensures, ← c.to_future-z.ensures)
