-- `seize` meets its contract: one unit of the server that the block names, held by the moving one.
use Rattle.machine.specs.All.{sym, ap}
use Rattle.servers_laws.specs.Taking.{seize_rows}
use Rattle.servers.proofs.taking.seize.Goals as goal

pub returns : goal.returns
unfolding seize_rows
returns c =
    let same = c.scalars-s.ensures.same in
    let number = rw c.row-k.ensures at c.read-number.ensures in
    rw (c.with_outcome.ensures, c.of.ensures, same, ← c.server_at-v.ensures, ← number)
    (c.take_units-outcome.ensures _ (sym c.row-k.ensures) (sym (ap (λ x. x.serial) same)) (sym (ap (λ x. x.clock) same)))
