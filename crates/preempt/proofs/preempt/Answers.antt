-- `preempt` meets its contract, by cases on whether the facility is seized.
use Rattle.machine.specs.All.{sym, ap}
use Rattle.preempt_laws.specs.Preempting.{preempt_rows}
use Rattle.preempt.proofs.preempt.Goals as goal

pub returns-then-seized : goal.returns-then-seized
unfolding preempt_rows
returns-then-seized c =
    let number = rw c.row-k.ensures at c.read-number.ensures in
    rw (← c.server_at-v.ensures, ← number, ← c.seized.ensures, c.if-seized.true) c.preempt_seized.ensures

pub returns : goal.returns
unfolding preempt_rows
returns c =
    let same = c.scalars-s.ensures.same in
    let number = rw c.row-k.ensures at c.read-number.ensures in
    rw (
      c.with_outcome.ensures,
      c.of.ensures,
      same,
      ← c.server_at-v.ensures,
      ← number,
      ← c.seized.ensures,
      c.if-seized.false,
    )
    (c.take_units-outcome.ensures _ (sym c.row-k.ensures) (sym (ap (λ x. x.serial) same)) (sym (ap (λ x. x.clock) same)))
