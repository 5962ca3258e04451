-- No digit, one digit, or the digits above the last and then the last.
use Rattle.runmodel.proofs.Stored.{numeral-nothing, numeral-one, numeral-more}
use Rattle.runmodel.proofs.lines.+numeral.Goals as goal

pub returns-then-most-eq0-clause-value : goal.returns-then-most-eq0-clause-value
returns-then-most-eq0-clause-value t c = (numeral-nothing _ _ _ c.args.out.now c.if-most-eq0.true).0

pub returns-then-most-eq0-clause-out_after : goal.returns-then-most-eq0-clause-out_after
returns-then-most-eq0-clause-out_after t c = (numeral-nothing _ _ _ c.args.out.now c.if-most-eq0.true).1

pub returns-then-n-lt10-clause-value : goal.returns-then-n-lt10-clause-value
returns-then-n-lt10-clause-value t c = (numeral-one _ _ _ c.args.out.now c.if-most-eq0.false c.if-n-lt10.true).0

pub returns-then-n-lt10-clause-out_after : goal.returns-then-n-lt10-clause-out_after
returns-then-n-lt10-clause-out_after t c = (numeral-one _ _ _ c.args.out.now c.if-most-eq0.false c.if-n-lt10.true).1

pub returns-clause-value : goal.returns-clause-value
returns-clause-value t c =
    let next = c.numeral-next.ensures in
    (numeral-more _ _ _ _ _ _ c.if-most-eq0.false c.if-n-lt10.false (next.value, next.out_after)).0

pub returns-clause-out_after : goal.returns-clause-out_after
returns-clause-out_after t c =
    let next = c.numeral-next.ensures in
    (numeral-more _ _ _ _ _ _ c.if-most-eq0.false c.if-n-lt10.false (next.value, next.out_after)).1
