-- `tapes::point_at` meets its contract.
use Rattle.machine.specs.All.{arith, sym, ◌∙◌}
use Rattle.tapes_laws.proofs.{Reading.u-inside, Curves.point_no-u, Curves.point_no-time, Curves.point-taken}
use Rattle.tapes.proofs.given.point_at.Goals as goal

pub returns-in_err-u : goal.returns-in_err-u
returns-in_err-u c = rw c.from_residual.ensures (point_no-u _ _ (sym c.count_at.ensures ∙ c.in_err-u.was))

pub overflow_add-at : goal.overflow_add-at
overflow_add-at c = omega (arith, u-inside _ _ (sym c.count_at.ensures ∙ c.in_ok-u.was))

pub returns-in_err-time : goal.returns-in_err-time
returns-in_err-time c =
    rw c.from_residual-in_err-time.ensures
    (point_no-time _ _ (sym c.count_at.ensures ∙ c.in_ok-u.was) (sym c.count_at-2.ensures ∙ c.in_err-time.was))

pub returns : goal.returns
returns c = point-taken _ _ (sym c.count_at.ensures ∙ c.in_ok-u.was) (sym c.count_at-2.ensures ∙ c.in_ok-time.was)
