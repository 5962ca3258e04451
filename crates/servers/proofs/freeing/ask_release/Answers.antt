-- `ask_release` meets its contract: 24, then 27.
use Rattle.machine.specs.All.{lt-ltb, le-ltb, eq-eqb, ne_eqb}
use Rattle.servers_laws.specs.Freeing.{ask_release}
use Rattle.servers.proofs.freeing.ask_release.Goals as goal

pub returns-then-units-lt1 : goal.returns-then-units-lt1
unfolding ask_release
returns-then-units-lt1 c = rw (lt-ltb _ 1 c.if-units-lt1.true)

pub returns-then-taken-ne0 : goal.returns-then-taken-ne0
unfolding ask_release
returns-then-taken-ne0 c = rw (le-ltb _ 1 c.if-units-lt1.false, ne_eqb _ _ c.if-taken-ne0.true)

pub returns-then-who-number : goal.returns-then-who-number
unfolding ask_release
returns-then-who-number c = rw (le-ltb _ 1 c.if-units-lt1.false, eq-eqb _ _ c.if-taken-ne0.false, ne_eqb _ _ c.if-who-number.true)

pub returns : goal.returns
unfolding ask_release
returns c = rw (le-ltb _ 1 c.if-units-lt1.false, eq-eqb _ _ c.if-taken-ne0.false, eq-eqb _ _ c.if-who-number.false)
