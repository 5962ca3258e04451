-- `relations::Relation::of` meets its contract: each arm is its line of the definition.
use Rattle.machine.specs.All.{ne_eqb, arith}
use Rattle.evaluation.specs.{related_by}
use Rattle.evaluation.proofs.relations.Relation.of.Goals as goal

pub returns-in-1 : goal.returns-in-1
unfolding related_by
returns-in-1 c = λ a b. rw c.in-1.is

pub returns-in-2 : goal.returns-in-2
unfolding related_by
returns-in-2 c = λ a b. rw c.in-2.is

pub returns-in-3 : goal.returns-in-3
unfolding related_by
returns-in-3 c = λ a b. rw c.in-3.is

pub returns-in-4 : goal.returns-in-4
unfolding related_by
returns-in-4 c = λ a b. rw c.in-4.is

pub returns-in-5 : goal.returns-in-5
unfolding related_by
returns-in-5 c = λ a b. rw c.in-5.is

pub returns-in_default : goal.returns-in_default
unfolding related_by
returns-in_default c =
    λ a b. rw (
      ne_eqb c.args.n 1 (λ e. omega arith),
      ne_eqb c.args.n 2 (λ e. omega arith),
      ne_eqb c.args.n 3 (λ e. omega arith),
      ne_eqb c.args.n 4 (λ e. omega arith),
      ne_eqb c.args.n 5 (λ e. omega arith),
    )
