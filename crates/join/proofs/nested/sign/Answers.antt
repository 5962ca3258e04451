-- `join::nested::sign` meets its contract.
use Rattle.join_laws.proofs.RowSteps.{sign-none, sign-one}
use Rattle.join.proofs.nested.sign.Goals as goal

pub returns-then-signs-eq0 : goal.returns-then-signs-eq0
returns-then-signs-eq0 c = sign-none _ _ _ _ _ c.if-signs-eq0.true

pub returns : goal.returns
returns c =
    sign-one _ _ _ _ _ _ _ c.if-signs-eq0.false c.number.ensures
    c.emit.ensures
