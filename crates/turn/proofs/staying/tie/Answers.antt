-- `tie` meets its contract, store by store.
use Rattle.turn_laws.specs.Staying.{tied}
use Rattle.turn.proofs.staying.tie.Goals as goal

pub returns : goal.returns
unfolding tied
returns c = cc
