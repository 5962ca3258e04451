-- `covrith_stream_start` meets its contract: the answer of `start`, case by case.
use Rattle.machine.specs.All.{refl}
use Rattle.covrith.specs.{start_answer, start_state}
use Rattle.covrith.proofs.covrith_stream_start.Goals as goal

pub returns-in-Ok-clause-value : goal.returns-in-Ok-clause-value
unfolding start_answer
returns-in-Ok-clause-value c = rw (← c.start.ensures, c.in-Ok.is) refl

pub returns-in-Ok-clause-state_after : goal.returns-in-Ok-clause-state_after
unfolding start_state
returns-in-Ok-clause-state_after c = rw (← c.start.ensures, c.in-Ok.is) c.number.ensures.value

pub returns-in-Err-clause-value : goal.returns-in-Err-clause-value
unfolding start_answer
returns-in-Err-clause-value c = rw (← c.start.ensures, c.in-Err.is) c.number-in-Err.ensures

pub returns-in-Err-clause-state_after : goal.returns-in-Err-clause-state_after
unfolding start_state
returns-in-Err-clause-state_after c = rw (← c.start.ensures, c.in-Err.is) refl
