-- `tapes::spread` meets its contract: each of the questions in turn.
use Rattle.machine.specs.All.{sym, ◌∙◌}
use Rattle.tapes_laws.proofs.Reading.{time-inside, spread_no_mean, spread_no_half, spread_wide, spread-late, spread-taken}
use Rattle.tapes.proofs.given.spread.Goals as goal

pub returns-in_err-mean : goal.returns-in_err-mean
returns-in_err-mean c = rw c.from_residual.ensures (spread_no_mean _ _ (sym c.count_at.ensures ∙ c.in_err-mean.was))

pub returns-in_err-half : goal.returns-in_err-half
returns-in_err-half c =
    rw c.from_residual-in_err-half.ensures
    (spread_no_half _ _ (sym c.count_at.ensures ∙ c.in_ok-mean.was) (sym c.count_at-2.ensures ∙ c.in_err-half.was))

pub returns-then-mean-half : goal.returns-then-mean-half
returns-then-mean-half c =
    spread_wide _ _ (sym c.count_at.ensures ∙ c.in_ok-mean.was) (sym c.count_at-2.ensures ∙ c.in_ok-half.was) c.if-mean-half.true

pub returns-then-mean-gt-MAX_MEAN_PARTS : goal.returns-then-mean-gt-MAX_MEAN_PARTS
returns-then-mean-gt-MAX_MEAN_PARTS c =
    spread-late _ _ (sym c.count_at.ensures ∙ c.in_ok-mean.was) (sym c.count_at-2.ensures ∙ c.in_ok-half.was)
    c.if-mean-half.false c.if-mean-gt-MAX_MEAN_PARTS.true

pub bounds-numbers-at : goal.bounds-numbers-at
bounds-numbers-at c = time-inside _ _ (sym c.count_at.ensures ∙ c.in_ok-mean.was)

pub bounds-numbers-at-2 : goal.bounds-numbers-at-2
bounds-numbers-at-2 c = time-inside _ _ (sym c.count_at-2.ensures ∙ c.in_ok-half.was)

pub returns : goal.returns
returns c =
    spread-taken _ _ (sym c.count_at.ensures ∙ c.in_ok-mean.was) (sym c.count_at-2.ensures ∙ c.in_ok-half.was)
    c.if-mean-half.false c.if-mean-gt-MAX_MEAN_PARTS.false
