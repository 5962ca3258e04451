-- `put_queue` meets its contract: three numbers in order.
use Rattle.machine.specs.All.{refl, ap₂, ◌∙◌}
use Rattle.report_laws.specs.{Writing.put, Writing.put_all, Counts.queue_row}
use Rattle.report.proofs.counts.Counts.put_queue.Goals as goal

pub returns : goal.returns
unfolding queue_row put_all
returns c =
    c.write_number.ensures
    ∙ ap₂ put c.longest_content.ensures
    (c.write_number-filled.ensures ∙ ap₂ put c.content_ticks.ensures
    (c.write_number-arrived.ensures ∙ ap₂ put c.total.ensures refl))
