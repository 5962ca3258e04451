-- The records of either part are its own: from the law of what was joined and the theorem over decoded models.
use Rattle.machine.specs.All.{ℕ, ◌≡◌, sym, ap, subst, ◌∙◌, List, [], BlockModel, Validation, accept, reject}
use Rattle.joined.specs.{Join.join_models, Join.join_tapes, Parts.Dry}
use Rattle.joined.proofs.Parts.{in-force}
use Rattle.join_laws.specs.AsAlone.{AsAlone}
use Rattle.join_laws.proofs.Accepted.{join-accepted, join-within}

abbrev model_in : BlockModel → Validation → BlockModel
model_in m (accept m' times) = m'
model_in m (reject n) = m

abbrev tape_in : Validation → List (List ℕ)
tape_in (accept m times) = times
tape_in (reject n) = []

pub as-alone : AsAlone
as-alone model₁ tape₁ model₂ tape₂ model tape modelRoom tapeRoom work report m₁ m₂ m times₁ times₂ times v₁ v₂ e v clock₁ clock₂ units
    joint alone₁ alone₂ d d₁ d₂ =
    let whole = join-accepted model₁ tape₁ model₂ tape₂ modelRoom tapeRoom work report m₁ m₂ times₁ times₂ v₁ v₂ model tape e in
    let same-model : m ≡ join_models m₁ m₂ = ap (model_in m) (sym v ∙ whole) in
    let same-tape : times ≡ join_tapes times₁ times₂ = ap tape_in (sym v ∙ whole) in
    in-force model₁ tape₁ model₂ tape₂ work report m₁ m₂ times₁ times₂ v₁ v₂
    (join-within model₁ tape₁ model₂ tape₂ modelRoom tapeRoom work report m₁ m₂ times₁ times₂ v₁ v₂ model tape e) clock₁ clock₂ units joint
    alone₁ alone₂
    (subst (λ t. Dry (join_models m₁ m₂) t joint) same-tape (subst (λ k. Dry k times joint) same-model d)) d₁ d₂
