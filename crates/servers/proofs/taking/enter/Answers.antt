-- `enter` meets its contract: the units and the server that the block names.
use Rattle.machine.specs.All.{sym, ap}
use Rattle.servers_laws.specs.Taking.{enter_rows}
use Rattle.servers.proofs.taking.enter.Goals as goal

pub returns : goal.returns
unfolding enter_rows
returns c =
    let same = c.scalars-s.ensures.same in
    rw (c.with_outcome.ensures, c.of.ensures, same, ← c.server_at-v.ensures, ← c.number-b.ensures)
    (c.take_units-outcome.ensures _ (sym c.row.ensures) (sym (ap (λ x. x.serial) same)) (sym (ap (λ x. x.clock) same)))
