-- `split_on` meets its contract: on, then the copies.
use Rattle.machine.specs.All.{sym, ◌∙◌}
use Rattle.moves.specs.Motion.{moved}
use Rattle.flow_laws.specs.Kinds.{split_on}
use Rattle.flow_laws.proofs.Copies.{go-on-moved}
use Rattle.flow.proofs.splitting.split_on.Goals as goal

pub returns : goal.returns
unfolding split_on moved
returns c = rw (← c.go_on-y.ensures) (c.copies.ensures (go-on-moved _ _ _ _ c.go_on-y.ensures ∙ sym c.row-k.ensures))
