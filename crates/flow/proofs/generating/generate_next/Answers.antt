-- `generate_next` meets its contract: by cases on the question.
use Rattle.state.proofs.Ends.{end_eqb}
use Rattle.flow_laws.specs.Kinds.{generate_next, generate_with}
use Rattle.flow.proofs.generating.generate_next.Goals as goal

pub returns-in-Err : goal.returns-in-Err
unfolding generate_next generate_with
returns-in-Err c = rw (
  ← c.next_sample-sample.ensures,
  c.stop.ensures,
  c.scalars-in-Err.ensures.same,
  ← c.scalars.ensures.same,
  ← c.in-Err.ensures,
  end_eqb _,
)

pub returns : goal.returns
unfolding generate_next generate_with
returns c = rw (
  ← c.next_sample-sample.ensures,
  ← c.scalars.ensures.same,
  ← c.in_default.ensures,
  c.scalars.ensures.same,
)
    c.arrive_on.ensures
