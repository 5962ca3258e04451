-- `join::moving::Role::of` meets its contract: two tags name servers, and what no line of `moved_by` names stays as it is.
use Rattle.machine.specs.All.{arith, ne_eqb}
use Rattle.join_laws.specs.Rows.{moved_by}
use Rattle.join.proofs.moving.Role.of.Goals as goal

pub returns-in-7 : goal.returns-in-7
unfolding moved_by
returns-in-7 c = λ by n. rw c.in-7.is

pub returns-in_default : goal.returns-in_default
unfolding moved_by
returns-in_default c =
    λ by n. rw (
      ne_eqb c.args.tag 2 (λ e. omega arith),
      ne_eqb c.args.tag 4 (λ e. omega arith),
      ne_eqb c.args.tag 5 (λ e. omega arith),
      ne_eqb c.args.tag 6 (λ e. omega arith),
      ne_eqb c.args.tag 7 (λ e. omega arith),
      ne_eqb c.args.tag 8 (λ e. omega arith),
      ne_eqb c.args.tag 9 (λ e. omega arith),
      ne_eqb c.args.tag 12 (λ e. omega arith),
      ne_eqb c.args.tag 13 (λ e. omega arith),
    )
