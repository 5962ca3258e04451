-- `tapes::fixed` meets its contract.
use Rattle.machine.specs.All.{sym, ◌∙◌}
use Rattle.tapes_laws.proofs.Reading.{time-inside, fixed-refused, fixed-taken}
use Rattle.tapes.proofs.given.fixed.Goals as goal

pub returns-in_err-count_at : goal.returns-in_err-count_at
returns-in_err-count_at c =
    rw c.from_residual.ensures (fixed-refused _ _ (sym c.count_at.ensures ∙ c.in_err-count_at.was))

pub bounds-numbers-at : goal.bounds-numbers-at
bounds-numbers-at c = time-inside _ _ (sym c.count_at.ensures ∙ c.in_ok-count_at.was)

pub returns : goal.returns
returns c = fixed-taken _ _ (sym c.count_at.ensures ∙ c.in_ok-count_at.was)
