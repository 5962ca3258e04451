-- `block_term` meets its contract: a tag, its range, and the number after it.
use Rattle.machine.specs.All.{refl}
use Rattle.parse_values.proofs.{Binds.stores-passed, Steps.block-stop, Steps.block-stop-2, Steps.block_read}
use Rattle.parse_values.proofs.block_term.Goals as goal

pub returns-in_err-tag : goal.returns-in_err-tag
returns-in_err-tag c = stores-passed c.from_residual.ensures.1 (block-stop _ _ c.in_err-tag.ensures.takes _ refl)

pub returns-in_err-after : goal.returns-in_err-after
returns-in_err-after c =
    stores-passed c.from_residual-in_err-after.ensures.1
    (block-stop-2 _ _ c.in_ok-tag.ensures.takes refl (rw c.term_range-range.ensures.value at c.in_err-after.ensures.takes) refl)

pub returns : goal.returns
returns c =
    block_read _ _ c.in_ok-tag.ensures.takes refl (rw c.term_range-range.ensures.value at c.in_ok-after.ensures.takes) refl
