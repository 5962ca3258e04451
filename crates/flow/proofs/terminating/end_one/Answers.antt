-- `end_one` meets its contract: each scalar.
use Rattle.flow_laws.specs.Kinds.{end_one}
use Rattle.flow.proofs.terminating.end_one.Goals as goal

pub returns : goal.returns
unfolding end_one
returns c = rw (c.by_fields-y.ensures, c.saturating_add.ensures, c.saturating_sub.ensures, c.end_after-y.ensures, c.of-y.ensures)
