-- `keep_counted` meets its contract: that of `number`, the question of 64 numbers, and one store.
use Rattle.machine.specs.All.{refl}
use Rattle.parse_values.proofs.{Binds.takes-passed, Steps.counted-refused, Steps.counted-past, Steps.counted-read}
use Rattle.parse_values.proofs.keep_counted.Goals as goal

pub returns-in_err-v-clause-takes : goal.returns-in_err-v-clause-takes
returns-in_err-v-clause-takes c =
    takes-passed c.from_residual.ensures.1 (counted-refused _ c.in_err-v.ensures.takes _ _ _ _ refl)

pub returns-then-numbers-ge-MAX_VALUE_NUMBERS-clause-takes : goal.returns-then-numbers-ge-MAX_VALUE_NUMBERS-clause-takes
returns-then-numbers-ge-MAX_VALUE_NUMBERS-clause-takes c =
    counted-past _ c.in_ok-v.ensures.takes _ _ _ _ refl c.if-numbers-ge-MAX_VALUE_NUMBERS.true

pub returns-clause-takes : goal.returns-clause-takes
returns-clause-takes c = counted-read _ c.in_ok-v.ensures.takes _ _ _ refl c.if-numbers-ge-MAX_VALUE_NUMBERS.false
