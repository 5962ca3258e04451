-- `interrupt_on` meets its contract: the steps in order.
use Rattle.preempt_laws.specs.Preempting.{interrupt_on}
use Rattle.preempt.proofs.interrupt_on.Goals as goal

pub returns : goal.returns
unfolding interrupt_on
returns c = cc
