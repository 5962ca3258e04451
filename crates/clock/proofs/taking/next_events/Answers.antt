-- `next_events` meets its contract, by cases on the first of the FEL.
use Rattle.machine.specs.All.{arith, ap, ◌∙◌}
use Rattle.clock.specs.{first_time}
use Rattle.clock.proofs.Steps.{events-none, events_spent, events-come}
use Rattle.clock.proofs.taking.next_events.Goals as goal

pub returns-in_default : goal.returns-in_default
returns-in_default c = events-none _ _ _ c.in_default.ensures

pub returns-then-x-ge-SERIAL_END : goal.returns-then-x-ge-SERIAL_END
returns-then-x-ge-SERIAL_END c = events_spent _ _ _ (rw c.in-Some.ensures.0 c.in-Some.ensures.1) c.if-x-ge-SERIAL_END.true

pub returns : goal.returns
returns c =
    events-come _ _ _ _ _ (rw c.in-Some.ensures.0 c.in-Some.ensures.1) (omega arith) (rw c.in-Some.ensures.0 c.time-due.ensures)
    c.move_clock.ensures
