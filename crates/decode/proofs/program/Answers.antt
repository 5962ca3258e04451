-- `program` meets its contract: four parts, one after the other.
use Rattle.machine.specs.All.{refl}
use Rattle.parse_values.proofs.Binds.{takes-stop, takes_bind}
use Rattle.decode.specs.{Stage, program_field}
use Rattle.decode.proofs.Stages.{stage-passed, program-stop, program-kept}
use Rattle.decode.proofs.program.Goals as goal

pub returns-in_err-lists : goal.returns-in_err-lists
unfolding program_field
returns-in_err-lists c =
    stage-passed c.from_residual.ensures.1
    (takes-stop (Stage _ _ _ _ _ _) _ _ c.in_err-lists.ensures.takes refl (record { held = refl }))

pub returns-in_err-counter : goal.returns-in_err-counter
unfolding program_field
returns-in_err-counter c =
    stage-passed c.from_residual-in_err-counter.ensures.1
    (takes_bind (Stage _ _ _ _ _ _) _ _ c.in_ok-lists.ensures.takes refl
    (λ n₁ c₁ f₁. takes-stop (Stage _ _ _ _ _ _) _ _ c.in_err-counter.ensures.takes refl (record { held = refl })))

pub returns-in_err-block_count : goal.returns-in_err-block_count
unfolding program_field
returns-in_err-block_count c =
    stage-passed c.from_residual-in_err-block_count.ensures.1
    (takes_bind (Stage _ _ _ _ _ _) _ _ c.in_ok-lists.ensures.takes refl
    (λ n₁ c₁ f₁.
    takes_bind (Stage _ _ _ _ _ _) _ _ c.in_ok-counter.ensures.takes refl
    (λ n₂ c₂ f₂. takes-stop (Stage _ _ _ _ _ _) _ _ c.in_err-block_count.ensures.takes refl (record { held = refl }))))

pub returns-in_err-q : goal.returns-in_err-q
returns-in_err-q c =
    stage-passed c.from_residual-in_err-q.ensures.1
    (program-stop _ _ c.in_ok-lists.ensures.takes refl c.in_ok-counter.ensures.takes refl c.in_ok-block_count.ensures.takes refl
    c.in_err-q.ensures refl)

pub returns : goal.returns
returns c =
    program-kept _ _ c.in_ok-lists.ensures.takes refl c.in_ok-counter.ensures.takes refl c.in_ok-block_count.ensures.takes refl
    c.in_ok-q.ensures refl
