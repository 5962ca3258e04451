-- What an answer of `decode` tells of the machine's answer to the questions.
use Rattle.machine.specs.All.{clash, ℕ, ◌≡◌, refl, sym, ap, ◌∙◌, List, BlockModel, Validation, accept, reject}
use Rattle.std.specs.Prelude.{Ok, Err}
use Rattle.constants.specs.{declared.model.Model.Model, declared.refusals.Refusal.Refusal, Numbers.refusal_number}
use Rattle.layout.specs.All.{header_of, Represents}
use Rattle.decode.specs.{Models.Decoded, Decodes.Decodes}

-- an accepted model and tape, and what stands for them
pub record Told (tape : List ℕ) (h : Model) (tables lists : List ℕ) (v : Validation) : Type 0 where
  pub model : BlockModel
  pub times : List (List ℕ)
  pub accepted : v ≡ accept model times
  pub header : h ≡ header_of model
  pub represents : Represents model times tape tables lists

module _ (tape tables lists : List ℕ) (r : Decoded) where
  -- a caller that gets a refusal knows the definition's answer
  pub decoded-refused : (v : Validation) (d : Refusal) → Decodes tape r tables lists v → r ≡ Err d → v ≡ reject (refusal_number d)
  decoded-refused (accept m times) d h e = let f = sym e ∙ h.0 in clash (cc)
  decoded-refused (reject k) d h e = ap reject (sym (rw e at h))

  -- a caller that gets a model knows that it is accepted, and what the tables hold
  pub decoded-model : (v : Validation) (x : Model) → Decodes tape r tables lists v → r ≡ Ok x → Told tape x tables lists v
  decoded-model (accept m times) x h e =
      let f = sym e ∙ h.0 in
      let same : x ≡ header_of m = cc in
      record { model = m; times = times; accepted = refl; header = same; represents = h.1 }
  decoded-model (reject k) x h e = absurd (rw e at h)
