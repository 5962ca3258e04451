-- `to_ready` meets its contract: the serial, then the list.
use Rattle.flow_laws.specs.Sending.{to_ready}
use Rattle.flow.proofs.sending.to_ready.Goals as goal

pub returns : goal.returns
unfolding to_ready
returns c =
    rw (← c.saturating_add-serial.ensures, c.put.ensures, c.write.ensures)
