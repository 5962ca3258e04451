-- `wake_first_ql` meets its contract: the length in the tally, then the rows.
use Rattle.servers_laws.specs.Waking.{shorter}
use Rattle.servers.proofs.waking.wake_first_ql.Goals as goal

pub returns-clause-lengths : goal.returns-clause-lengths
unfolding shorter
returns-clause-lengths c = cc
