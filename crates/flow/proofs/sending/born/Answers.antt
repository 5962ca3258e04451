-- `born` meets its contract: by cases on the first free row.
use Rattle.machine.specs.All.{lt-ltb, le-ltb}
use Rattle.flow_laws.specs.Sending.{one_made, born}
use Rattle.flow.proofs.sending.born.Goals as goal

pub returns-in_default : goal.returns-in_default
unfolding one_made born
returns-in_default c = λ x e f. rw (le-ltb _ 1024 c.in_default.ensures.row, c.in_default.ensures.rows)

pub returns : goal.returns
unfolding one_made born
returns c = λ x e f.
    rw (c.in-Some.ensures.row.0, lt-ltb _ 1024 c.in-Some.ensures.row.1, ← c.in-Some.ensures.rows) (c.born_at.ensures x e f)
