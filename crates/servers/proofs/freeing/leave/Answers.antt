-- `leave` meets its contract, by cases on the question.
use Rattle.machine.specs.All.{sym, ap, lt-ltb, le-ltb}
use Rattle.servers_laws.specs.Freeing.{leave_rows}
use Rattle.servers.proofs.freeing.leave.Goals as goal

pub returns-then-units-b : goal.returns-then-units-b
unfolding leave_rows
returns-then-units-b c =
    rw (
      ← c.server_at-v.ensures,
      ← c.number-b.ensures,
      ← c.in_use-units.ensures,
      lt-ltb _ _ c.if-units-b.true,
      c.stop.ensures,
      c.scalars-s.ensures.same,
    )

pub returns : goal.returns
unfolding leave_rows
returns c =
    let same = c.scalars-s.ensures.same in
    rw (
      c.with_outcome.ensures,
      c.of.ensures,
      same,
      ← c.server_at-v.ensures,
      ← c.number-b.ensures,
      ← c.in_use-units.ensures,
      le-ltb _ _ c.if-units-b.false,
    )
    (c.free_some.ensures _ (sym c.row.ensures) (sym (ap (λ x. x.clock) same)))
