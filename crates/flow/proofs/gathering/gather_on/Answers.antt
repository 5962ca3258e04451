-- `gather_on` meets its contract: the count is written, then the wait begins.
use Rattle.machine.specs.All.{ap, ◌∙◌}
use Rattle.rows_laws.specs.All.{next_field, write}
use Rattle.flow_laws.specs.Gathering.{gather_on}
use Rattle.flow.proofs.gathering.gather_on.Goals as goal

pub returns : goal.returns
unfolding gather_on
returns c = rw (← (c.write.ensures ∙ ap (λ k. write c.args.work.now next_field k 1) c.row.ensures)) c.begin_wait.ensures
