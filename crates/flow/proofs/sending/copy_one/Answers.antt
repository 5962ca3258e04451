-- `copy_one` meets its contract: by cases on the first free row.
use Rattle.machine.specs.All.{lt-ltb, le-ltb}
use Rattle.flow_laws.specs.Sending.{copy_one}
use Rattle.flow.proofs.sending.copy_one.Goals as goal

pub returns-in-Some : goal.returns-in-Some
unfolding copy_one
returns-in-Some c = λ e.
    rw (c.in-Some.ensures.row.0, lt-ltb _ 1024 c.in-Some.ensures.row.1, ← c.in-Some.ensures.rows) (c.copy_to.ensures e)

pub returns-in-None : goal.returns-in-None
unfolding copy_one
returns-in-None c = λ e. rw (le-ltb _ 1024 c.in-None.ensures.row, c.in-None.ensures.rows)
