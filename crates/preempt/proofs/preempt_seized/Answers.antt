-- `preempt_seized` meets its contract, by cases on the row that loses.
use Rattle.machine.specs.All.{sym, ap, lt-ltb, le-ltb}
use Rattle.preempt_laws.specs.Preempting.{preempt_seized}
use Rattle.preempt.proofs.preempt_seized.Goals as goal

pub returns-in-Some : goal.returns-in-Some
unfolding preempt_seized
returns-in-Some c =
    let loser = rw (c.holder-who.ensures, c.priority-below.ensures, c.number.ensures.same, c.row-k.ensures) at c.in-Some.ensures.row in
    rw (loser.0, lt-ltb _ 1024 loser.1) c.take_over.ensures

pub returns : goal.returns
unfolding preempt_seized
returns c =
    let same = c.scalars-s.ensures.same in
    let none = rw (c.holder-who.ensures, c.priority-below.ensures, c.number.ensures.same, c.row-k.ensures) at c.in_default.ensures.row in
    rw (c.with_outcome.ensures, c.of.ensures, same, le-ltb _ 1024 none)
    (c.take_units-outcome.ensures _ (sym c.row-k.ensures) (sym (ap (λ x. x.serial) same)) (sym (ap (λ x. x.clock) same)))
