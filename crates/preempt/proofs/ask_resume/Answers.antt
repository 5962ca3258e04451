-- `ask_resume` meets its contract, by cases on whether there is a row.
use Rattle.machine.specs.All.{lt-ltb, le-ltb}
use Rattle.preempt_laws.specs.Preempting.{ask_resume}
use Rattle.preempt.proofs.ask_resume.Goals as goal

pub returns-in-Some : goal.returns-in-Some
unfolding ask_resume
returns-in-Some c j is =
    let row = rw c.in-Some.is at is in
    rw (row.0, lt-ltb _ 1024 row.1, ← c.time.ensures) c.ask_time.ensures

pub returns-in-None : goal.returns-in-None
unfolding ask_resume
returns-in-None c j is =
    let none = rw c.in-None.is at is in rw (le-ltb _ 1024 none)
