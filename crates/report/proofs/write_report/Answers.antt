-- `write_report` meets its contract: the parts of the report in order.
use Rattle.machine.specs.All.{sym, ap, ◌∙◌}
use Rattle.report_laws.specs.{Writing.put_all, Numbers.row_numbers}
use Rattle.report_laws.proofs.Writes.{put_all-parts}
use Rattle.report.proofs.write_report.Goals as goal

pub returns : goal.returns
unfolding row_numbers
returns c =
    rw (← c.min.ensures, ← c.min-2.ensures, ← c.min-3.ensures, ← c.min-queues.ensures)
    (c.put_living.ensures
    ∙ ap (put_all _)
    (c.put_queues-queued.ensures
    ∙ ap (put_all _) (c.put_servers-served.ensures ∙ ap (put_all _) c.put_scalars-head.ensures))
    ∙ sym (put_all-parts _ _ _ _ _))
