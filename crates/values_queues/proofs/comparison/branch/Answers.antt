-- `branch` meets its contract, by cases on the comparison.
use Rattle.machine.specs.All.{◌∙◌}
use Rattle.values_queues_laws.specs.Comparison.{branch_rows}
use Rattle.values_queues.proofs.comparison.branch.Goals as goal

pub returns-then-holds : goal.returns-then-holds
unfolding branch_rows
returns-then-holds c =
    let holds = rw (c.scalars.ensures.same, c.row-k.ensures) at c.holds.ensures in
    rw (← holds, c.if-holds.true) (c.go_to.ensures ∙ rw c.number.ensures)

pub returns : goal.returns
unfolding branch_rows
returns c =
    let holds = rw (c.scalars.ensures.same, c.row-k.ensures) at c.holds.ensures in rw (← holds, c.if-holds.false) c.go_on.ensures
