-- `ask_room` meets its contract: by cases on the sum.
use Rattle.machine.specs.All.{le-leb, lt-leb}
use Rattle.flow_laws.specs.Questions.{ask_room}
use Rattle.flow.proofs.questions.ask_room.Goals as goal

pub returns-then-saturating_add-le-MAX_LIVING : goal.returns-then-saturating_add-le-MAX_LIVING
unfolding ask_room
returns-then-saturating_add-le-MAX_LIVING c = rw (← c.saturating_sub.ensures, ← c.saturating_add.ensures, le-leb _ 1024 c.if-saturating_add-le-MAX_LIVING.true)

pub returns-else-saturating_add-le-MAX_LIVING : goal.returns-else-saturating_add-le-MAX_LIVING
unfolding ask_room
returns-else-saturating_add-le-MAX_LIVING c = rw (← c.saturating_sub.ensures, ← c.saturating_add.ensures, lt-leb _ 1024 c.if-saturating_add-le-MAX_LIVING.false)
