-- `join::rows::operand` meets its contract.
use Rattle.machine.specs.All.{◌∙◌, refl, ap, arith}
use Rattle.codec.specs.Writing.{written, put}
use Rattle.join_laws.proofs.RowSteps.{operand-one}
use Rattle.join.proofs.Forming.{small-form}
use Rattle.join.proofs.rows.operand.Goals as goal

pub returns : goal.returns
returns c =
    let s = small-form c.args.form in
    operand-one _ _ _ _ _ _ _ _ _ (λ e. omega (arith, s.0)) c.number.ensures refl c.number-2.ensures
    (c.emit.ensures ∙ ap (λ k. put k (written c.args.to c.args.out.now)) (c.role-named.ensures c.args.by c.number-2.result))
