-- `release` meets its contract, by cases on the question.
use Rattle.machine.specs.All.{sym, ap}
use Rattle.servers_laws.specs.Freeing.{release_rows}
use Rattle.state.proofs.Ends.{end_eqb}
use Rattle.servers.proofs.freeing.release.Goals as goal

pub returns-in-Err : goal.returns-in-Err
unfolding release_rows
returns-in-Err c =
    let number = rw c.row-k.ensures at c.read-number.ensures in
    rw (
      ← c.server_at-v.ensures,
      ← c.in_use-units.ensures,
      ← number,
      ← c.preempted.ensures,
      ← c.holder.ensures,
      ← c.in-Err.ensures,
      end_eqb _,
      c.stop.ensures,
      c.scalars-s.ensures.same,
    )

pub returns : goal.returns
unfolding release_rows
returns c =
    let same = c.scalars-s.ensures.same in
    let number = rw c.row-k.ensures at c.read-number.ensures in
    rw (
      c.with_outcome.ensures,
      c.of.ensures,
      same,
      ← c.server_at-v.ensures,
      ← c.in_use-units.ensures,
      ← number,
      ← c.preempted.ensures,
      ← c.holder.ensures,
      ← c.in_default.ensures,
      ← c.saturating_sub.ensures,
    )
    (c.free_one.ensures _ (sym c.row-k.ensures) (sym (ap (λ x. x.clock) same)))
