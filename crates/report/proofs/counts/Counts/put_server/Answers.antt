-- `put_server` meets its contract: five numbers in order.
use Rattle.machine.specs.All.{refl, ap₂, ◌∙◌}
use Rattle.report_laws.specs.{Writing.put, Writing.put_all, Counts.server_row}
use Rattle.report.proofs.counts.Counts.put_server.Goals as goal

pub returns : goal.returns
unfolding server_row put_all
returns c =
    c.write_number.ensures
    ∙ ap₂ put c.longest_ql.ensures
    (c.write_number-waited.ensures
    ∙ ap₂ put c.wait_ticks.ensures
    (c.write_number-waits.ensures
    ∙ ap₂ put c.total-2.ensures
    (c.write_number-used.ensures ∙ ap₂ put c.unit_ticks.ensures
    (c.write_number-entered.ensures ∙ ap₂ put c.total.ensures refl))))
