-- `terminate` meets its contract: by cases on the question; then the row and the scalars.
use Rattle.machine.specs.All.{ap, ◌∙◌}
use Rattle.rows_laws.specs.All.{number_field, read}
use Rattle.state.proofs.Ends.{end_eqb}
use Rattle.flow_laws.specs.Kinds.{terminate_rows}
use Rattle.flow.proofs.terminating.terminate.Goals as goal

pub returns-in-Err : goal.returns-in-Err
unfolding terminate_rows
returns-in-Err c = rw (← (c.read.ensures ∙ ap (read c.args.work.now number_field) c.row-k.ensures), ← c.in-Err.ensures, end_eqb _, c.stop.ensures, c.scalars.ensures.same)

pub returns : goal.returns
unfolding terminate_rows
returns c = rw (
  ← (c.read.ensures ∙ ap (read c.args.work.now number_field) c.row-k.ensures),
  ← c.in_default.ensures,
  ← c.number-a.ensures,
  c.end_one.ensures,
  c.scalars-2.ensures.same,
  c.free_row.ensures,
  c.row-k.ensures,
)
