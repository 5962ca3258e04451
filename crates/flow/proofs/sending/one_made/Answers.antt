-- `one_made` meets its contract, by cases on whether one was made.
use Rattle.flow_laws.specs.Sending.{one_made}
use Rattle.flow.proofs.sending.one_made.Goals as goal

pub returns-then-made : goal.returns-then-made
unfolding one_made
returns-then-made c = rw (c.if-made.true, c.by_fields-y.ensures, c.saturating_add-number.ensures, c.saturating_add-serial.ensures)

pub returns : goal.returns
unfolding one_made
returns c = rw c.if-made.false
