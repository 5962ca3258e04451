-- The proof of the cycle of calls: a term, a comparison, a sum and its terms, each by its law of Steps.
-- The measure is 32 for each bracket that may open, and less than 32 for where reading stands between two brackets: after a
-- count of at most 8, a sum has its terms left, and a comparison its two.
use Rattle.machine.specs.All.{refl}
use Rattle.parse_values.proofs.Binds.{stores-passed}
use Rattle.parse_values.proofs.Steps.{comparison-stop, comparison-stop-2, comparison-kept, sum-stop, sum_kept, terms-none, terms-stop, terms-stop-2, terms-kept, term-stop, term-operand, term_fifth, term-comparison, term-bracket}
use Rattle.parse_values.proofs.+comparison_sum_sum_terms_value_term.Goals as goal

pub comparison-returns-in_err-q : goal.comparison-returns-in_err-q
comparison-returns-in_err-q t c =
    stores-passed c.from_residual.ensures.1 (comparison-stop _ _ _ c.in_err-q.ensures.takes _ refl)

pub comparison-returns-in_err-left : goal.comparison-returns-in_err-left
comparison-returns-in_err-left t c =
    stores-passed c.from_residual-in_err-left.ensures.1
    (comparison-stop-2 _ _ _ c.in_ok-q.ensures.takes refl c.in_err-left.ensures _ refl)

pub comparison-returns : goal.comparison-returns
comparison-returns t c =
    comparison-kept _ _ _ c.in_ok-q.ensures.takes refl c.in_ok-left.ensures refl c.value_term-2.ensures

pub sum-returns-in_err-count : goal.sum-returns-in_err-count
sum-returns-in_err-count t c = stores-passed c.from_residual.ensures.1 (sum-stop _ _ _ c.in_err-count.ensures.takes _ refl)

pub sum-returns : goal.sum-returns
sum-returns t c = sum_kept _ _ _ c.in_ok-count.ensures.takes refl c.sum_terms.ensures

pub sum_terms-returns-then-left-eq0 : goal.sum_terms-returns-then-left-eq0
sum_terms-returns-then-left-eq0 t c = terms-none _ _ _ _ _ _ c.if-left-eq0.true

pub sum_terms-returns-in_err-q : goal.sum_terms-returns-in_err-q
sum_terms-returns-in_err-q t c =
    stores-passed c.from_residual.ensures.1 (terms-stop _ _ _ c.in_err-q.ensures.takes c.if-left-eq0.false _ refl)

pub sum_terms-returns-in_err-after : goal.sum_terms-returns-in_err-after
sum_terms-returns-in_err-after t c =
    stores-passed c.from_residual-in_err-after.ensures.1
    (terms-stop-2 _ _ _ c.in_ok-q.ensures.takes c.if-left-eq0.false refl c.in_err-after.ensures _ refl)

pub sum_terms-returns : goal.sum_terms-returns
sum_terms-returns t c =
    terms-kept _ _ _ c.in_ok-q.ensures.takes c.if-left-eq0.false refl c.in_ok-after.ensures refl c.sum_terms.ensures

pub value_term-returns-in_err-tag : goal.value_term-returns-in_err-tag
value_term-returns-in_err-tag t c = stores-passed c.from_residual.ensures.1 (term-stop _ _ _ _ c.in_err-tag.ensures.takes _ refl)

pub value_term-returns-then-tag-le-VALUE_TAG : goal.value_term-returns-then-tag-le-VALUE_TAG
value_term-returns-then-tag-le-VALUE_TAG t c =
    term-operand _ _ _ _ c.in_ok-tag.ensures.takes refl c.if-tag-le-VALUE_TAG.true c.operand.ensures

pub value_term-returns-then-depth-eq0 : goal.value_term-returns-then-depth-eq0
value_term-returns-then-depth-eq0 t c =
    term_fifth _ _ _ _ c.in_ok-tag.ensures.takes refl _ c.if-tag-le-VALUE_TAG.false c.if-depth-eq0.true

pub value_term-returns-then-tag-eq-COMPARISON_TAG : goal.value_term-returns-then-tag-eq-COMPARISON_TAG
value_term-returns-then-tag-eq-COMPARISON_TAG t c =
    term-comparison _ _ _ _ c.in_ok-tag.ensures.takes refl c.if-depth-eq0.false
    c.if-tag-eq-COMPARISON_TAG.true c.comparison.ensures

pub value_term-returns : goal.value_term-returns
value_term-returns t c =
    term-bracket _ _ _ _ c.in_ok-tag.ensures.takes refl c.if-depth-eq0.false
    c.if-tag-le-VALUE_TAG.false c.if-tag-eq-COMPARISON_TAG.false c.sum.ensures
