-- `servers` meets its contract: four parts, one after the other.
use Rattle.machine.specs.All.{refl}
use Rattle.parse_values.proofs.Binds.{takes-stop, takes_bind}
use Rattle.decode.specs.{Stage, servers_field}
use Rattle.decode.proofs.Stages.{stage-passed, servers-stop, servers-kept}
use Rattle.decode.proofs.servers.Goals as goal

pub returns-in_err-edition-clause-stage : goal.returns-in_err-edition-clause-stage
unfolding servers_field
returns-in_err-edition-clause-stage c =
    stage-passed c.from_residual.ensures.1
    (takes-stop (Stage _ _ _ _ _ _) _ _ c.in_err-edition.ensures.takes refl (record { held = refl }))

pub returns-in_err-facility_count-clause-stage : goal.returns-in_err-facility_count-clause-stage
unfolding servers_field
returns-in_err-facility_count-clause-stage c =
    stage-passed c.from_residual-in_err-facility_count.ensures.1
    (takes_bind (Stage _ _ _ _ _ _) _ _ c.in_ok-edition.ensures.takes refl
    (λ n₁ c₁ f₁. takes-stop (Stage _ _ _ _ _ _) _ _ c.in_err-facility_count.ensures.takes refl (record { held = refl })))

pub returns-in_err-storages-clause-stage : goal.returns-in_err-storages-clause-stage
unfolding servers_field
returns-in_err-storages-clause-stage c =
    stage-passed c.from_residual-in_err-storages.ensures.1
    (takes_bind (Stage _ _ _ _ _ _) _ _ c.in_ok-edition.ensures.takes refl
    (λ n₁ c₁ f₁.
    takes_bind (Stage _ _ _ _ _ _) _ _ c.in_ok-facility_count.ensures.takes refl
    (λ n₂ c₂ f₂. takes-stop (Stage _ _ _ _ _ _) _ _ c.in_err-storages.ensures.takes refl (record { held = refl }))))

pub returns-in_err-q-clause-stage : goal.returns-in_err-q-clause-stage
returns-in_err-q-clause-stage c =
    stage-passed c.from_residual-in_err-q.ensures.1
    (servers-stop _ _ c.empty.result c.in_ok-edition.ensures.takes refl c.in_ok-facility_count.ensures.takes refl
    c.in_ok-storages.ensures.takes refl c.clear.ensures c.facilities.ensures c.in_err-q.ensures refl)

pub returns-clause-stage : goal.returns-clause-stage
returns-clause-stage c =
    let z = c.empty.ensures.nothing in
    servers-kept _ _ c.empty.result c.in_ok-edition.ensures.takes refl c.in_ok-facility_count.ensures.takes refl
    c.in_ok-storages.ensures.takes refl c.clear.ensures c.facilities.ensures c.in_ok-q.ensures refl (z.2, z.3, z.4, z.5, z.6)
