-- `tapes::choose` meets its contract: kind by kind.
use Rattle.machine.specs.All.{sym, ◌∙◌}
use Rattle.tapes_laws.proofs.Lists.{kind-none, kind-points, kind-curve, kind-fixed, kind-spread}
use Rattle.tapes.proofs.given.choose.Goals as goal

pub returns-in_err-of : goal.returns-in_err-of
returns-in_err-of c = rw c.from_residual.ensures (kind-none _ _ _ _ (rw c.in_err-of.was at c.of.ensures))

pub returns-in-Curve : goal.returns-in-Curve
returns-in-Curve c =
    let h = rw c.in_ok-of.was at c.of.ensures in kind-curve _ _ _ _ _ (rw c.in-Curve.is at h) c.curve.ensures

pub returns-then-points-ne0 : goal.returns-then-points-ne0
returns-then-points-ne0 c =
    let h = rw c.in_ok-of.was at c.of.ensures in
    kind-points _ _ _ _ _ h (λ e. let never = sym c.in-Fixed.is ∙ e in cc) c.if-points-ne0.true

pub returns-then-points-ne0-2 : goal.returns-then-points-ne0-2
returns-then-points-ne0-2 c =
    let h = rw c.in_ok-of.was at c.of.ensures in
    kind-points _ _ _ _ _ h (λ e. let never = sym c.in-Spread.is ∙ e in cc) c.if-points-ne0-2.true

pub returns-else-points-ne0 : goal.returns-else-points-ne0
returns-else-points-ne0 c =
    let h = rw c.in_ok-of.was at c.of.ensures in
    kind-fixed _ _ _ _ _ (rw c.in-Fixed.is at h) c.if-points-ne0.false c.fixed.ensures

pub returns-else-points-ne0-2 : goal.returns-else-points-ne0-2
returns-else-points-ne0-2 c =
    let h = rw c.in_ok-of.was at c.of.ensures in
    kind-spread _ _ _ _ _ (rw c.in-Spread.is at h) c.if-points-ne0-2.false c.spread.ensures
