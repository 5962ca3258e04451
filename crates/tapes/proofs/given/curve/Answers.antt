-- `tapes::curve` meets its contract: each of the questions in turn.
use Rattle.machine.specs.All.{sym, ◌∙◌}
use Rattle.tapes_laws.proofs.Curves.{curve-few, curve-many, curve_no_point, curve-late, curve-broken, curve-taken}
use Rattle.tapes.proofs.given.curve.Goals as goal

pub returns-then-points-lt-FEWEST_POINTS : goal.returns-then-points-lt-FEWEST_POINTS
returns-then-points-lt-FEWEST_POINTS c = curve-few _ _ _ c.if-points-lt-FEWEST_POINTS.true

pub returns-then-points-gt-MOST_POINTS : goal.returns-then-points-gt-MOST_POINTS
returns-then-points-gt-MOST_POINTS c = curve-many _ _ _ c.if-points-lt-FEWEST_POINTS.false c.if-points-gt-MOST_POINTS.true

pub returns-in_err-p : goal.returns-in_err-p
returns-in_err-p c =
    rw c.from_residual.ensures
    (curve_no_point _ _ _ c.if-points-lt-FEWEST_POINTS.false c.if-points-gt-MOST_POINTS.false (sym c.point_at.ensures ∙ c.in_err-p.was))

pub returns-then-p-ne0 : goal.returns-then-p-ne0
returns-then-p-ne0 c =
    curve-late _ _ _ c.if-points-lt-FEWEST_POINTS.false c.if-points-gt-MOST_POINTS.false (sym c.point_at.ensures ∙ c.in_ok-p.was)
    c.if-p-ne0.true

pub returns-then-points_behind : goal.returns-then-points_behind
returns-then-points_behind c =
    curve-taken _ _ _ c.if-points-lt-FEWEST_POINTS.false c.if-points-gt-MOST_POINTS.false (sym c.point_at.ensures ∙ c.in_ok-p.was)
    c.if-p-ne0.false (sym c.if-points_behind.true ∙ c.points_behind.ensures)

pub returns : goal.returns
returns c =
    curve-broken _ _ _ c.if-points-lt-FEWEST_POINTS.false c.if-points-gt-MOST_POINTS.false (sym c.point_at.ensures ∙ c.in_ok-p.was)
    c.if-p-ne0.false (sym c.if-points_behind.false ∙ c.points_behind.ensures)
