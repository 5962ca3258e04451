-- `tapes::draw` meets its contract: kind by kind.
use Rattle.machine.specs.All.{◌∙◌}
use Rattle.tapes_laws.proofs.Drawing.{fixed-drawn, spread-drawn, curve-drawn}
use Rattle.tapes.proofs.draw.draw.Goals as goal

pub returns-in-Fixed : goal.returns-in-Fixed
returns-in-Fixed c s meant =
    let e = fixed-drawn _ _ s _ meant _ c.in-Fixed.is in (c.whole_part.ensures ∙ e.0, e.1)

pub returns-in-Spread : goal.returns-in-Spread
returns-in-Spread c s meant =
    let e = spread-drawn _ _ s _ meant _ c.next-behind.ensures c.uniform-u.ensures.below c.uniform-u.result
    c.uniform-u.ensures.value _ _ _ c.in-Spread.is c.spread.ensures.exact in
    (c.whole_part-in-Spread.ensures ∙ e.0, e.1)

pub returns-in-Curve : goal.returns-in-Curve
returns-in-Curve c s meant =
    let e = curve-drawn _ _ s _ meant _ c.next-behind-in-Curve.ensures c.uniform-v.ensures.below c.uniform-v.result
    c.uniform-v.ensures.value _ _ _ c.in-Curve.is c.segment-s.ensures c.interpolate.ensures.near in
    (c.whole_part-in-Curve.ensures ∙ e.0, e.1)
