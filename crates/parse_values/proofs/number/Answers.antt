-- `number` meets its contract: that of `codec::read_text`, with the place beside it.
use Rattle.parse_values.proofs.{Binds.takes-passed, Steps.number-refused, Steps.number_read}
use Rattle.parse_values.proofs.number.Goals as goal

pub returns-in_err-v-clause-takes : goal.returns-in_err-v-clause-takes
returns-in_err-v-clause-takes c =
    takes-passed c.from_residual.ensures.1 (number-refused (c.read_text.ensures.by_index _ _) _ c.in_err-v.was)

pub returns-clause-takes : goal.returns-clause-takes
returns-clause-takes c =
    let inside = c.read_text.ensures.inside _ _ c.in_ok-v.was in
    number_read (c.read_text.ensures.by_index _ _) c.in_ok-v.was inside.0 inside.1
