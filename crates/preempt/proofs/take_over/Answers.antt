-- `take_over` meets its contract: the steps in order.
use Rattle.machine.specs.All.{sym, ap}
use Rattle.preempt_laws.specs.Preempting.{take_over}
use Rattle.preempt.proofs.take_over.Goals as goal

pub returns : goal.returns
unfolding take_over
returns c =
    let same = c.scalars-s.ensures.same in
    let interrupted = rw same at c.interrupt_on.ensures in
    let held = c.hold_units.ensures c.args.x (sym c.row-k.ensures) (sym (ap (λ x. x.clock) same)) in
    rw (
      c.with_outcome.ensures,
      c.of.ensures,
      same,
      ← c.in_use-units.ensures,
      ← c.capacity-all.ensures.capacity,
      ← interrupted,
    )
    (rw (c.number.ensures.same, c.row-k.ensures) at held)
