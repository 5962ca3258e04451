-- `things` meets its contract: three parts, one after the other.
use Rattle.machine.specs.All.{refl}
use Rattle.parse_values.proofs.Binds.{takes-stop, takes_bind}
use Rattle.decode.specs.{Stage, things_field}
use Rattle.decode.proofs.Stages.{stage-passed, things-stop, things-kept}
use Rattle.decode.proofs.things.Goals as goal

pub returns-in_err-queues-clause-stage : goal.returns-in_err-queues-clause-stage
unfolding things_field
returns-in_err-queues-clause-stage c =
    stage-passed c.from_residual.ensures.1
    (takes-stop (Stage _ _ _ _ _ _) _ _ c.in_err-queues.ensures.takes refl (record { held = refl }))

pub returns-in_err-value_count-clause-stage : goal.returns-in_err-value_count-clause-stage
unfolding things_field
returns-in_err-value_count-clause-stage c =
    stage-passed c.from_residual-in_err-value_count.ensures.1
    (takes_bind (Stage _ _ _ _ _ _) _ _ c.in_ok-queues.ensures.takes refl
    (λ n₁ c₁ f₁. takes-stop (Stage _ _ _ _ _ _) _ _ c.in_err-value_count.ensures.takes refl (record { held = refl })))

pub returns-in_err-q-clause-stage : goal.returns-in_err-q-clause-stage
returns-in_err-q-clause-stage c =
    stage-passed c.from_residual-in_err-q.ensures.1
    (things-stop _ _ c.in_ok-queues.ensures.takes refl c.in_ok-value_count.ensures.takes refl c.in_err-q.ensures refl)

pub returns-clause-stage : goal.returns-clause-stage
returns-clause-stage c =
    things-kept _ _ c.in_ok-queues.ensures.takes refl c.in_ok-value_count.ensures.takes refl c.in_ok-q.ensures refl
