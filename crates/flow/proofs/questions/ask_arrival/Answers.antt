-- `ask_arrival` meets its contract: the two questions.
use Rattle.codec.proofs.Answers.{passed-on}
use Rattle.state.proofs.Ends.{end_eqb}
use Rattle.flow_laws.specs.Questions.{first_no, ask_arrival}
use Rattle.flow.proofs.questions.ask_arrival.Goals as goal

pub returns-in_err-ask_room : goal.returns-in_err-ask_room
unfolding first_no ask_arrival
returns-in_err-ask_room c = rw (passed-on _ _ c.from_residual.ensures.1, ← c.in_err-ask_room.ensures, end_eqb _)

pub returns : goal.returns
unfolding first_no ask_arrival
returns c = rw (← c.in_ok-ask_room.ensures) c.ask_time.ensures
