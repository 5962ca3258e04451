-- The proof of the cycle of calls: sums and terms call each other. The measure is one number for value number, bracket depth and
-- remaining terms: a mention goes to a lower value, a comparison or a bracket one level deeper, a sum to its next term.
use Rattle.machine.specs.All.{arith, refl, sym, ◌<◌, ◌∙◌}
use lib.Signed.{mag}
use Rattle.std.proofs.Common.{to_z-of_z}
use Rattle.evaluation.proofs.Signs.{back}
use Rattle.evaluation.proofs.Steps.{term-past, term_simple, term_mention, term_deep, term-comparison, term-bracket, sum-none, sum_past, comparison-step, judged-is, sum_step, value_none, value-past, value-step}
use Rattle.evaluation.proofs.view.View.+comparison_sum_term_value.Goals as goal

pub comparison-returns : goal.comparison-returns
comparison-returns t c =
    let a : mag c.term-left.result.worth < 2147483648 = omega arith in
    let b : mag c.term-right.result.worth < 2147483648 = omega arith in
    comparison-step _ _ _ _ c.number_at.ensures.number _ c.term-left.ensures _ refl _ c.term-right.ensures _
    (judged-is _ _ _ _ (back _ c.judge-worth.type_inv ∙ c.judge-worth.ensures ∙ rw (back _ a, back _ b)))

pub sum-returns-then-left-eq0 : goal.sum-returns-then-left-eq0
sum-returns-then-left-eq0 t c = rw (to_z-of_z c.ranges.so_far) (sym (sum-none _ _ _ _ _ c.if-left-eq0.true))

pub sum-returns-then-at-ge-POSITIONS : goal.sum-returns-then-at-ge-POSITIONS
sum-returns-then-at-ge-POSITIONS t c = rw (to_z-of_z c.ranges.so_far) (sym (sum_past _ _ _ _ _ (omega arith)))

pub sum-returns : goal.sum-returns
sum-returns t c =
    let w : mag c.term-t.result.worth < 2147483648 = omega arith in
    sum_step _ _ _ _ c.number_at-sign.ensures.number _
    c.if-left-eq0.false (omega arith) _ _
    c.term-t.ensures _ _ _
    (to_z-of_z c.ranges.so_far)
    (back _ w)
    (back _ c.join-joint.type_inv ∙ c.join-joint.ensures) _
    refl _ c.sum.ensures

pub term-returns-then-at-ge-POSITIONS : goal.term-returns-then-at-ge-POSITIONS
term-returns-then-at-ge-POSITIONS t c = sym (term-past _ _ _ _ _ (omega arith))

pub term-returns-then-tag-lt-VALUE_TAG : goal.term-returns-then-tag-lt-VALUE_TAG
term-returns-then-tag-lt-VALUE_TAG t c =
    rw (back _ c.simple_term-worth.type_inv, c.simple_term-worth.ensures, c.of.ensures.known (omega arith))
    (sym (term_simple _ _ _ _ (omega arith) _ _ c.number_at-tag.ensures.number c.number_at-n.ensures.number _ c.if-tag-lt-VALUE_TAG.true))

pub term-returns-then-tag-eq-VALUE_TAG : goal.term-returns-then-tag-eq-VALUE_TAG
term-returns-then-tag-eq-VALUE_TAG t c =
    rw (back _ c.value-worth.type_inv, c.value-worth.ensures)
    (sym (term_mention _ _ _ _ (omega arith) _ _ c.number_at-tag.ensures.number c.number_at-n.ensures.number _ c.if-tag-eq-VALUE_TAG.true))

pub term-returns-then-depth-eq0 : goal.term-returns-then-depth-eq0
term-returns-then-depth-eq0 t c =
    sym (term_deep _ _ _ _ (omega arith) _ _ c.number_at-tag.ensures.number c.number_at-n.ensures.number _ c.if-depth-eq0.true c.if-tag-lt-VALUE_TAG.false c.if-tag-eq-VALUE_TAG.false)

pub term-returns-then-tag-eq-COMPARISON_TAG : goal.term-returns-then-tag-eq-COMPARISON_TAG
term-returns-then-tag-eq-COMPARISON_TAG t c =
    c.comparison.ensures
    ∙ sym (term-comparison _ _ _ _ (omega arith) _ _ c.number_at-tag.ensures.number c.number_at-n.ensures.number _ c.if-depth-eq0.false c.if-tag-eq-COMPARISON_TAG.true)

pub term-returns : goal.term-returns
term-returns t c =
    c.sum.ensures
    ∙ sym (term-bracket _ _ _ _ (omega arith) _ _ c.number_at-tag.ensures.number c.number_at-n.ensures.number _ c.if-depth-eq0.false
    c.if-tag-lt-VALUE_TAG.false c.if-tag-eq-VALUE_TAG.false c.if-tag-eq-COMPARISON_TAG.false)

pub value-returns-then-lower-k : goal.value-returns-then-lower-k
value-returns-then-lower-k t c = sym (value_none _ _ _ _ c.if-lower-k.true)

pub value-returns-then-at-ge-TABLES : goal.value-returns-then-at-ge-TABLES
value-returns-then-at-ge-TABLES t c = value-past _ _ _ _ c.if-lower-k.false (omega arith)

pub value-returns : goal.value-returns
value-returns t c =
    let w : mag c.sum-whole.result.worth < 2147483648 = omega arith in
    back _ w ∙ value-step _ _ _ _ c.if-lower-k.false _ c.number-count.ensures _ c.sum-whole.ensures
