-- `set_use` meets its contract: nothing where the tally is too short, else the counts and the three cells.
use Rattle.machine.specs.All.{lt-ltb, le-ltb}
use Rattle.layout.specs.All.{tally_size}
use Rattle.servers_laws.specs.Units.{set_use}
use Rattle.servers.proofs.units.set_use.Goals as goal

pub returns-then-tally-lt-TALLY : goal.returns-then-tally-lt-TALLY
unfolding set_use
returns-then-tally-lt-TALLY c = rw (lt-ltb _ tally_size c.if-tally-lt-TALLY.true)

pub returns : goal.returns
unfolding set_use
returns c =
    rw (
      le-ltb _ tally_size c.if-tally-lt-TALLY.false,
      c.store_use.ensures,
      c.held_more.ensures,
      c.held_less.ensures,
      c.index.ensures.same,
    )
