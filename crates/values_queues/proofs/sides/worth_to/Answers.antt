-- `worth_to` meets its contract, by cases on whether a parameter is named.
use Rattle.machine.specs.All.{◌∙◌}
use Rattle.evaluation.proofs.Signs.{back}
use Rattle.values_queues_laws.specs.Sides.{side_at}
use Rattle.values_queues.proofs.sides.worth_to.Goals as goal

pub returns-then-names_own : goal.returns-then-names_own
unfolding side_at
returns-then-names_own c = rw (← c.names_own.ensures, c.if-names_own.true) (back _ c.own.type_inv ∙ c.own.ensures)

pub returns : goal.returns
unfolding side_at
returns c =
    rw (← c.names_own.ensures, c.if-names_own.false) (back _ c.term_at.type_inv ∙ c.term_at.ensures)
