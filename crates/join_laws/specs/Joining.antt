-- Document 02, item 13, over bytes: "Answers: each model's, then its tape's own numbers, first pair first; then 61 editions differ or a joined
-- count or the counter passes its limit; then 62 the output needs more bytes than were lent."
use Rattle.std.specs.Prelude.{◌≡◌, ◌&&◌, ◌++◌}
use Rattle.machine.specs.All.{ℕ, cond, List, leb, length, in_force, BlockModel, beginning, model_of_lem, Validation, accept, reject, with_model, validate}
use Rattle.joined.specs.Join.{join_models, join_tapes, joinable}
use Rattle.join_laws.specs.Written.{model_bytes}

-- the two outputs, or the number of the refusal
pub data Joining : Type 0 where
  joined : (model tape : List ℕ) → Joining
  refused : ℕ → Joining

-- questions 3 to 10: the buffers of a run are not asked for
abbrev pub judged : (model tape : List ℕ) → Validation
judged model tape = with_model tape (model_of_lem in_force model beginning)

module _ (modelRoom tapeRoom : ℕ) where
  unfoldable pub fitted : (model tape : List ℕ) → Joining
  fitted model tape = cond (leb (length model) modelRoom && leb (length tape) tapeRoom) (joined model tape) (refused 62)

  module _ (tape₁ tape₂ : List ℕ) where
    unfoldable pub joined_pair : (first second : Validation) → Joining
    joined_pair (reject n) second = refused n
    joined_pair (accept m₁ times₁) (reject n) = refused n
    joined_pair (accept m₁ times₁) (accept m₂ times₂) =
        cond (joinable m₁ m₂) (fitted (model_bytes (join_models m₁ m₂)) (tape₁ ++ tape₂)) (refused 61)

-- with so much room for the two outputs
unfoldable pub join : (model₁ tape₁ model₂ tape₂ : List ℕ) (modelRoom tapeRoom : ℕ) → Joining
join model₁ tape₁ model₂ tape₂ modelRoom tapeRoom =
    joined_pair modelRoom tapeRoom tape₁ tape₂ (judged model₁ tape₁) (judged model₂ tape₂)

-- ---- The claim: the joined pair is accepted, and is the joined model with the joined tape (../proofs/Accepted.antt)

abbrev pub JoinAccepted : Type 0
JoinAccepted =
    (model₁ tape₁ model₂ tape₂ : List ℕ) (modelRoom tapeRoom work report : ℕ) (m₁ m₂ : BlockModel) (times₁ times₂ : List (List ℕ))
    → validate in_force model₁ tape₁ work report ≡ accept m₁ times₁ → validate in_force model₂ tape₂ work report ≡ accept m₂ times₂
    → (model tape : List ℕ) → join model₁ tape₁ model₂ tape₂ modelRoom tapeRoom ≡ joined model tape
    → validate in_force model tape work report ≡ accept (join_models m₁ m₂) (join_tapes times₁ times₂)
