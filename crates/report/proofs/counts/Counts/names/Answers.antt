-- `names` meets its contract, by cases on operand and kind.
use Rattle.machine.specs.All.{◌∙◌, sym, true≢false, eq-eqb, ne_eqb}
use Rattle.report_laws.specs.Counts.{names}
use Rattle.report.proofs.counts.Counts.names.Goals.{then-kind-number, else-kind-number}
use Rattle.report.proofs.counts.Counts.names.Goals as goal

pub returns-then-number-index : goal.returns-then-number-index
unfolding names
returns-then-number-index c =
    rw (← c.number.ensures, ne_eqb _ _ c.if-number-index.true)

pub returns-then-kind-number-2 : goal.returns-then-kind-number-2
unfolding names
returns-then-kind-number-2 c = elim c.if-kind-number.branch [
  | then-kind-number w ↦
      rw (
        w.value-is,
        ← c.number.ensures,
        eq-eqb _ _ c.if-number-index.false,
        ← c.number-kind.ensures,
        ← c.number-2.ensures,
        eq-eqb _ _ w.if-kind-number.true,
      )
  | else-kind-number w ↦
      rw (
        c.if-kind-number-2.true,
        ← c.number.ensures,
        eq-eqb _ _ c.if-number-index.false,
        ← c.number-kind.ensures,
        ← c.number-2.ensures,
        ne_eqb _ _ w.if-kind-number.false,
        ← w.number-else-kind-number.ensures,
        sym w.value-is ∙ c.if-kind-number-2.true,
      )
]

pub returns-else-kind-number-2 : goal.returns-else-kind-number-2
unfolding names
returns-else-kind-number-2 c = elim c.if-kind-number.branch [
  | then-kind-number w ↦ absurd (true≢false (sym (eq-eqb _ _ w.if-kind-number.true) ∙ (sym w.value-is ∙ c.if-kind-number-2.false)))
  | else-kind-number w ↦
      rw (
        ← c.number.ensures,
        eq-eqb _ _ c.if-number-index.false,
        ← c.number-kind.ensures,
        ← c.number-2.ensures,
        ne_eqb _ _ w.if-kind-number.false,
        ← w.number-else-kind-number.ensures,
        sym w.value-is ∙ c.if-kind-number-2.false,
        ← c.number-else-kind-number-2.ensures,
      )
]
