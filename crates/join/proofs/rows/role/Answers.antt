-- `join::rows::role` meets its contract.
use Rattle.machine.specs.All.{sym, ap, lt-ltb, le-ltb}
use Rattle.join_laws.specs.Rows.{moved_by, role_of}
use Rattle.join.proofs.Forming.{is-role}
use Rattle.join.proofs.rows.role.Goals as goal

pub returns-in-Is : goal.returns-in-Is
returns-in-Is c = λ by n. rw c.in-Is.is (ap (λ k. moved_by by k n) (sym (is-role c.in-Is.role c.args.before)))

pub returns-in-ByTag : goal.returns-in-ByTag
unfolding role_of
returns-in-ByTag c = λ by n. rw c.in-ByTag.is (c.of.ensures by n)

pub returns-then-before-lt2 : goal.returns-then-before-lt2
unfolding role_of
returns-then-before-lt2 c = λ by n. rw (c.in-ByCode.is, lt-ltb _ 2 c.if-before-lt2.true)

pub returns-else-before-lt2 : goal.returns-else-before-lt2
unfolding role_of
returns-else-before-lt2 c = λ by n. rw (c.in-ByCode.is, le-ltb _ 2 c.if-before-lt2.false)
