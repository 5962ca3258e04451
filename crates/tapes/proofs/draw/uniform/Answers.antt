-- `tapes::uniform` meets its contract.
use Rattle.tapes_laws.specs.Source.{draw_of}
use Rattle.tapes_laws.proofs.Drawing.{draw-inside}
use Rattle.tapes.proofs.draw.uniform.Goals as goal

pub returns : goal.returns
unfolding draw_of
returns c =
    record { value = rw (← c.number.ensures.value) c.fraction.ensures; below = draw-inside c.number.ensures.inside }
