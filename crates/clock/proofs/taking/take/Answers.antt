-- `take` meets its contract, by cases on who is there to move.
use Rattle.clock.proofs.Steps.{take-moving, take-first, take-later}
use Rattle.clock.proofs.taking.take.Goals as goal

pub returns-in-Some : goal.returns-in-Some
returns-in-Some c =
    take-moving _ _ _ _ c.saturating_add.ensures (rw c.in-Some.ensures.0 c.in-Some.ensures.1)

pub returns-in-Some-first : goal.returns-in-Some-first
returns-in-Some-first c =
    take-first _ _ _ _ c.saturating_add.ensures _ _ c.in_default.ensures (rw c.in-Some-first.ensures.0 c.in-Some-first.ensures.1)
    c.take_ready.ensures.scalars c.take_ready.ensures.rows

pub returns : goal.returns
returns c =
    take-later _ _ _ _ c.saturating_add.ensures _ _ _ _ _ c.in_default.ensures c.in_default-first.ensures c.next_events-z.ensures
    c.take_ready-2.ensures.scalars c.take_ready-2.ensures.rows
