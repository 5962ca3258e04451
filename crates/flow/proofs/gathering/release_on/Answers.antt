-- `release_on` meets its contract: the row leaves its list and goes to REL.
use Rattle.machine.specs.All.{ap, ◌∙◌}
use Rattle.rows_laws.specs.All.{next_field, read}
use Rattle.flow_laws.specs.Gathering.{release_on}
use Rattle.flow.proofs.gathering.release_on.Goals as goal

pub returns : goal.returns
unfolding release_on
returns c = rw (
  ← (c.read.ensures ∙ ap (read c.args.work.now next_field) c.row.ensures),
  ← c.saturating_add-next.ensures,
  ← c.remove_at.ensures,
  ← c.write.ensures,
  ← c.set_returning.ensures,
  ← c.scalars.ensures.same,
)
    c.to_ready.ensures
