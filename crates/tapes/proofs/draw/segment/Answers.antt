-- `tapes::segment` meets its contract. The invariant: the points from here on are around the same two; the measure is what is left of the
-- doubles.
use Rattle.machine.specs.All.{arith}
use Rattle.tapes_laws.proofs.Drawing.{here-start, here-stops, here-goes, here-inside}
use Rattle.tapes.proofs.draw.segment.Goals as goal

pub loop-at-init : goal.loop-at-init
loop-at-init c =
    (omega arith, λ p l v points from inside is. here-start _ _ p l v points from)

pub returns-then-u-numbers : goal.returns-then-u-numbers
returns-then-u-numbers c p l v points from inside is =
    here-stops _ _ p l v _ inside is (c.loop-at.invariant.1 p l v points from inside is) c.if-u-numbers.true

pub loop-at-preserved : goal.loop-at-preserved
loop-at-preserved c = (
  omega arith,
  λ p l v points from inside is.
      here-goes _ _ p l v _ inside is (c.loop-at.invariant.1 p l v points from inside is) c.if-u-numbers.false,
)

pub returns : goal.returns
returns c p l v points from inside is =
    absurd (omega (
      arith,
      here-inside _ _ p l v c.args.u inside is (c.loop-at.invariant.1 p l v points from inside is),
      c.loop-at-test.false,
    ))
