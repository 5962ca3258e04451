-- `put_scalars` meets its contract: three numbers in order.
use Rattle.machine.specs.All.{ap, ◌∙◌}
use Rattle.report_laws.specs.Writing.{put, put_all}
use Rattle.report.proofs.put_scalars.Goals as goal

pub returns : goal.returns
unfolding put_all
returns c =
    c.write_number.ensures
    ∙ ap (put _) (c.write_number-made.ensures ∙ ap (put _) c.write_number-clocked.ensures)
