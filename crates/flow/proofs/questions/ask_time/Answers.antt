-- `ask_time` meets its contract: by cases on the sum.
use Rattle.machine.specs.All.{le-leb, lt-leb}
use Rattle.flow_laws.specs.Questions.{ask_time}
use Rattle.flow.proofs.questions.ask_time.Goals as goal

pub returns-then-saturating_add-le-MAX_CLOCK : goal.returns-then-saturating_add-le-MAX_CLOCK
unfolding ask_time
returns-then-saturating_add-le-MAX_CLOCK c = rw (← c.saturating_add.ensures, le-leb _ _ c.if-saturating_add-le-MAX_CLOCK.true)

pub returns-else-saturating_add-le-MAX_CLOCK : goal.returns-else-saturating_add-le-MAX_CLOCK
unfolding ask_time
returns-else-saturating_add-le-MAX_CLOCK c = rw (← c.saturating_add.ensures, lt-leb _ _ c.if-saturating_add-le-MAX_CLOCK.false)
