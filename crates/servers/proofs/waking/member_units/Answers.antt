-- `member_units` meets its contract: the units of the block before which the row stands.
use Rattle.servers_laws.specs.Waking.{member_units}
use Rattle.servers.proofs.waking.member_units.Goals as goal

pub returns : goal.returns
unfolding member_units
returns c = cc
