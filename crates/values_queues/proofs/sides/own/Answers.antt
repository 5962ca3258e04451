-- `own` meets its contract, by cases on whether the term is a parameter by itself.
use Rattle.machine.specs.All.{sym, ap, ◌∙◌, signed}
use Rattle.evaluation.proofs.Signs.{back, cast-signed-is}
use Rattle.values_queues_laws.proofs.Sharing.{parameter-term}
use Rattle.values_queues.proofs.sides.own.Goals as goal

pub returns-then-number-eq-PARAMETER_TAG : goal.returns-then-number-eq-PARAMETER_TAG
returns-then-number-eq-PARAMETER_TAG c =
    back _ c.cast_signed.type_inv
    ∙ c.cast_signed.ensures
    ∙ cast-signed-is _ c.parameter.type_inv
    ∙ ap signed c.parameter.ensures
    ∙ rw c.number-then-number-eq-PARAMETER_TAG.ensures (sym (parameter-term _ _ _ _ _ _ (sym c.number.ensures ∙ c.if-number-eq-PARAMETER_TAG.true)))

pub returns : goal.returns
returns c = back _ c.term_at.type_inv ∙ c.term_at.ensures ∙ rw c.parameters_of-parameters.ensures
