-- `operand` meets its contract: the range of the tag, the number, and for tags 9 and 4 what it counts as.
use Rattle.machine.specs.All.{arith, refl}
use Rattle.parse_values.proofs.{Binds.stores-passed, Steps.operand-stop, Steps.operand_third, Steps.operand_mention, Steps.operand-entries, Steps.operand-other}
use Rattle.parse_values.proofs.operand.Goals as goal

pub returns-in_err-v : goal.returns-in_err-v
returns-in_err-v c =
    stores-passed c.from_residual.ensures.1
    (operand-stop _ _ _ _ c.requires.2 (rw c.term_range-range.ensures.value at c.in_err-v.ensures.takes) refl)

pub returns-then-q-ge-MAX_MENTIONS : goal.returns-then-q-ge-MAX_MENTIONS
returns-then-q-ge-MAX_MENTIONS c =
    operand_third _ _ _ _ c.requires.2 (rw c.term_range-range.ensures.value at c.in_ok-v.ensures.takes) refl
    c.if-tag-eq-VALUE_TAG.true c.if-q-ge-MAX_MENTIONS.true

pub returns-then-tag-eq-VALUE_TAG : goal.returns-then-tag-eq-VALUE_TAG
returns-then-tag-eq-VALUE_TAG c =
    operand_mention _ _ _ _ c.requires.2 (rw c.term_range-range.ensures.value at c.in_ok-v.ensures.takes) refl
    c.if-tag-eq-VALUE_TAG.true c.if-q-ge-MAX_MENTIONS.false

pub returns-then-tag-eq-ENTRIES_TAG : goal.returns-then-tag-eq-ENTRIES_TAG
returns-then-tag-eq-ENTRIES_TAG c =
    operand-entries _ _ _ _ c.requires.2 (rw c.term_range-range.ensures.value at c.in_ok-v.ensures.takes) refl
    c.if-tag-eq-VALUE_TAG.false c.if-tag-eq-ENTRIES_TAG.true (omega (arith, c.max.ensures))

pub returns : goal.returns
returns c =
    operand-other _ _ _ _ c.requires.2 (rw c.term_range-range.ensures.value at c.in_ok-v.ensures.takes) refl
    c.if-tag-eq-VALUE_TAG.false c.if-tag-eq-ENTRIES_TAG.false
