-- `join::nested::opened` meets its contract.
use Rattle.machine.specs.All.{eq-eqb, ne_eqb}
use Rattle.join_laws.specs.Rows.{opened}
use Rattle.join.proofs.nested.opened.Goals as goal

pub returns-then-tag-eq-COMPARISON_TAG : goal.returns-then-tag-eq-COMPARISON_TAG
unfolding opened
returns-then-tag-eq-COMPARISON_TAG c = rw (eq-eqb _ 10 c.if-tag-eq-COMPARISON_TAG.true)

pub returns : goal.returns
unfolding opened
returns c = rw (ne_eqb _ 10 c.if-tag-eq-COMPARISON_TAG.false)
