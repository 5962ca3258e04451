-- `tapes::next_point` meets its contract.
use Rattle.machine.specs.All.{sym, ◌∙◌}
use Rattle.tapes_laws.proofs.Curves.{step-none, step_back, step_falls, step-taken, point-inside}
use Rattle.tapes.proofs.given.next_point.Goals as goal

pub returns-in_err-p-clause-result_value : goal.returns-in_err-p-clause-result_value
returns-in_err-p-clause-result_value c = rw c.from_residual.ensures (step-none _ _ _ (sym c.point_at.ensures ∙ c.in_err-p.was))

pub returns-then-p-before-clause-result_value : goal.returns-then-p-before-clause-result_value
returns-then-p-before-clause-result_value c = step_back _ _ _ (sym c.point_at.ensures ∙ c.in_ok-p.was) c.if-p-before.true

pub returns-then-p-before-2-clause-result_value : goal.returns-then-p-before-2-clause-result_value
returns-then-p-before-2-clause-result_value c =
    step_falls _ _ _ (sym c.point_at.ensures ∙ c.in_ok-p.was) c.if-p-before.false c.if-p-before-2.true

pub returns-clause-result_value : goal.returns-clause-result_value
returns-clause-result_value c =
    step-taken _ _ _ (sym c.point_at.ensures ∙ c.in_ok-p.was) c.if-p-before.false c.if-p-before-2.false

pub returns-clause-inside : goal.returns-clause-inside
returns-clause-inside c p e = point-inside _ _ _ (sym c.point_at.ensures ∙ c.in_ok-p.was)
