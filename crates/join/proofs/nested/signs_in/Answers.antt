-- `join::nested::signs_in` meets its contract.
use Rattle.machine.specs.All.{arith, eq-eqb, ne_eqb}
use Rattle.join_laws.specs.Rows.{signs_in}
use Rattle.join.proofs.nested.signs_in.Goals as goal

pub returns-then-tag-eq-COMPARISON_TAG : goal.returns-then-tag-eq-COMPARISON_TAG
unfolding signs_in
returns-then-tag-eq-COMPARISON_TAG c = record {
  value = rw (eq-eqb _ 10 c.if-tag-eq-COMPARISON_TAG.true);
  most = omega arith;
}

pub returns : goal.returns
unfolding signs_in
returns c = record {
  value = rw (ne_eqb _ 10 c.if-tag-eq-COMPARISON_TAG.false);
  most = omega arith;
}
