-- `wait_terms` meets its contract, by cases on the comparison.
use Rattle.values_queues_laws.specs.Waits.{wait_terms_rows}
use Rattle.values_queues.proofs.comparison.wait_terms.Goals as goal

pub returns-then-held : goal.returns-then-held
unfolding wait_terms_rows
returns-then-held c =
    let held = rw (c.scalars.ensures.same, c.row-k.ensures) at c.held.ensures in rw (← held, c.if-held.true) c.wait_on.ensures

pub returns : goal.returns
unfolding wait_terms_rows
returns c =
    let held = rw (c.scalars.ensures.same, c.row-k.ensures) at c.held.ensures in rw (← held, c.if-held.false) c.go_on.ensures
