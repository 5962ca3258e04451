-- `later` meets its contract: by cases on the question; then the count.
use Rattle.machine.specs.All.{ap, ◌∙◌}
use Rattle.rows_laws.specs.All.{number_field, read}
use Rattle.state.proofs.Ends.{end_eqb}
use Rattle.flow_laws.specs.Gathering.{later_rows}
use Rattle.flow.proofs.gathering.later.Goals as goal

pub returns-in-Err : goal.returns-in-Err
unfolding later_rows
returns-in-Err c = rw (← (c.read.ensures ∙ ap (read c.args.work.now number_field) c.row.ensures), ← c.in-Err.ensures, end_eqb _, c.stop.ensures, c.scalars.ensures.same)

pub returns : goal.returns
unfolding later_rows
returns c = rw (
  ← (c.read.ensures ∙ ap (read c.args.work.now number_field) c.row.ensures),
  ← c.in_default.ensures,
  ← c.read-2.ensures,
  ← c.saturating_add-come.ensures,
)
    c.count_on.ensures
