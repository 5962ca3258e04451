-- `split` meets its contract: by cases on the question.
use Rattle.state.proofs.Ends.{end_eqb}
use Rattle.flow_laws.specs.Kinds.{split_rows}
use Rattle.flow.proofs.splitting.split.Goals as goal

pub returns-in-Err : goal.returns-in-Err
unfolding split_rows
returns-in-Err c = rw (
  ← c.number-n.ensures,
  c.stop.ensures,
  c.scalars-in-Err.ensures.same,
  ← c.scalars.ensures.same,
  ← c.in-Err.ensures,
  end_eqb _,
)

pub returns : goal.returns
unfolding split_rows
returns c = rw (
  ← c.number-n.ensures,
  ← c.number-target.ensures,
  ← c.scalars.ensures.same,
  ← c.in_default.ensures,
  c.scalars.ensures.same,
)
    c.split_on.ensures
