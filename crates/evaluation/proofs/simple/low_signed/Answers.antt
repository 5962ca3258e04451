-- `simple::low_signed` meets its contract: the number whose 32 bits are what is left by 2 to the 32.
use Rattle.machine.specs.All.{◌∙◌, arith, low32, wrap}
use Rattle.evaluation.proofs.Signs.{back, cast-signed-is}
use Rattle.evaluation.proofs.simple.low_signed.Goals as goal

pub returns : goal.returns
unfolding wrap low32
returns c = back _ c.cast_signed.type_inv ∙ c.cast_signed.ensures ∙ cast-signed-is _ (omega arith)
