-- `held_less` meets its contract: nobody, or the cell of the number.
use Rattle.machine.specs.All.{eq-eqb, ne_eqb}
use Rattle.servers_laws.specs.Units.{set_held, held_less}
use Rattle.servers.proofs.units.held_less.Goals as goal

pub returns-then-n-ne0 : goal.returns-then-n-ne0
unfolding held_less set_held
returns-then-n-ne0 c =
    rw (ne_eqb _ 0 c.if-n-ne0.true, c.saturating_sub.ensures, c.residue_cell-at.ensures.cell)

pub returns-else-n-ne0 : goal.returns-else-n-ne0
unfolding held_less set_held
returns-else-n-ne0 c = rw (eq-eqb _ 0 c.if-n-ne0.false)
