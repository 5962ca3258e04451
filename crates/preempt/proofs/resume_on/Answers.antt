-- `resume_on` meets its contract: the steps in order.
use Rattle.preempt_laws.specs.Preempting.{resume_on}
use Rattle.preempt.proofs.resume_on.Goals as goal

pub returns : goal.returns
unfolding resume_on
returns c =
    let left = rw c.interrupted.ensures at c.take_first.ensures.rows in
    rw (← c.time.ensures, ← c.saturating_add-due.ensures, ← left) c.to_future.ensures
