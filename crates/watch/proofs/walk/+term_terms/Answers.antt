-- The proof of the cycle of calls: a term and the terms of a bracket call each other. The measure: brackets that may open, then terms left.
use Rattle.machine.specs.All.{sym, arith}
use Rattle.watch.proofs.Steps.{term-past, term_simple, term_deep, term-comparison, term-bracket, terms-none, terms-past, terms-more}
use Rattle.watch.proofs.walk.+term_terms.Goals as goal

pub term-returns-then-tables-at : goal.term-returns-then-tables-at
term-returns-then-tables-at t c = sym (term-past _ _ _ _ _ c.if-tables-at.true)

pub term-returns-then-tag-lt-COMPARISON_TAG : goal.term-returns-then-tag-lt-COMPARISON_TAG
term-returns-then-tag-lt-COMPARISON_TAG t c =
    let same = c.of.ensures.known (omega arith) in
    rw (c.mark.ensures, same)
    (sym (term_simple _ _ _ _ c.if-tables-at.false _ _
    c.number-tag.ensures c.number-n.ensures _
    c.if-tag-lt-COMPARISON_TAG.true))

pub term-returns-then-depth-eq0 : goal.term-returns-then-depth-eq0
term-returns-then-depth-eq0 t c =
    sym (term_deep _ _ _ _ c.if-tables-at.false _ _ c.number-tag.ensures
    c.number-n.ensures _ c.if-depth-eq0.true c.if-tag-lt-COMPARISON_TAG.false)

pub term-returns-then-tag-eq-COMPARISON_TAG : goal.term-returns-then-tag-eq-COMPARISON_TAG
term-returns-then-tag-eq-COMPARISON_TAG t c =
    cc (
      c.terms.ensures,
      term-comparison _ _ _ _
          c.if-tables-at.false _ _
          c.number-tag.ensures
          c.number-n.ensures _
          c.if-depth-eq0.false c.if-tag-eq-COMPARISON_TAG.true,
    )

pub term-returns : goal.term-returns
term-returns t c =
    cc (
      c.terms-2.ensures,
      term-bracket _ _ _ _
          c.if-tables-at.false _ _
          c.number-tag.ensures
          c.number-n.ensures _
          c.if-depth-eq0.false c.if-tag-lt-COMPARISON_TAG.false
          c.if-tag-eq-COMPARISON_TAG.false,
    )

pub terms-returns-then-left-eq0 : goal.terms-returns-then-left-eq0
terms-returns-then-left-eq0 t c = sym (terms-none _ _ _ _ _ _ c.if-left-eq0.true)

pub terms-returns-then-tables-at : goal.terms-returns-then-tables-at
terms-returns-then-tables-at t c = sym (terms-past _ _ _ _ _ _ c.if-tables-at.true)

pub terms-returns : goal.terms-returns
terms-returns t c =
    cc (
      c.terms.ensures,
      terms-more _ _ _ _ _ _
          c.if-left-eq0.false
          c.if-tables-at.false _ _
          c.term-next.ensures,
    )
