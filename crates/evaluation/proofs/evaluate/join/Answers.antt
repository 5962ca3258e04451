-- `evaluate::join` meets its contract: std's wrapping sum and difference are the machine's.
use Rattle.machine.specs.All.{◌∙◌, ne_eqb}
use Rattle.std.proofs.Common.{w32}
use Rattle.std.proofs.lemmas.Int.{wrapping_add_is, wrapping_sub_is}
use Rattle.evaluation.specs.{joined}
use Rattle.evaluation.proofs.Signs.{wrap-is}
use Rattle.evaluation.proofs.evaluate.join.Goals as goal

pub returns-then-sign-eq0 : goal.returns-then-sign-eq0
unfolding joined
returns-then-sign-eq0 c =
    rw c.if-sign-eq0.true (wrapping_add_is w32 _ _ c.ranges.a c.ranges.b ∙ wrap-is _)

pub returns-else-sign-eq0 : goal.returns-else-sign-eq0
unfolding joined
returns-else-sign-eq0 c =
    rw (ne_eqb _ _ c.if-sign-eq0.false) (wrapping_sub_is w32 _ _ c.ranges.a c.ranges.b ∙ wrap-is _)
