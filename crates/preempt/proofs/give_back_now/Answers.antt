-- `give_back_now` meets its contract, by cases on the first of the facility's list.
use Rattle.machine.specs.All.{sym, ap, lt-ltb, le-ltb}
use Rattle.preempt_laws.specs.Preempting.{give_back_now}
use Rattle.preempt.proofs.give_back_now.Goals as goal

pub returns-in-Some : goal.returns-in-Some
unfolding give_back_now
returns-in-Some c =
    let row = rw c.interrupted.ensures at c.in-Some.ensures in
    rw (row.0, lt-ltb _ 1024 row.1) c.resume.ensures

pub returns : goal.returns
unfolding give_back_now
returns c =
    let same = c.scalars-s.ensures.same in
    let none = rw c.interrupted.ensures at c.in_default.ensures in
    rw (
      c.with_outcome.ensures,
      c.of.ensures,
      same,
      le-ltb _ 1024 none,
      ← c.in_use.ensures,
      ← c.saturating_sub-left.ensures,
    )
    (c.free_one.ensures _ (sym c.row.ensures) (sym (ap (λ x. x.clock) same)))
