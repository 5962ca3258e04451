-- `row_to_future` meets its contract: serial and time are written, then the row comes onto the FEL.
use Rattle.flow_laws.specs.Sending.{to_future}
use Rattle.flow.proofs.sending.row_to_future.Goals as goal

pub returns : goal.returns
unfolding to_future
returns c =
    λ x f. rw (f, c.schedule.ensures, c.set_time.ensures, c.write.ensures, c.saturating_add.ensures)
