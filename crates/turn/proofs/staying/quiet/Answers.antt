-- `quiet` meets its contract, by one case after the other.
use Rattle.machine.specs.All.{lt-ltb, le-ltb, eq-eqb, ne_eqb}
use Rattle.turn_laws.specs.Staying.{quiet}
use Rattle.turn.proofs.staying.quiet.Goals as goal

pub returns-then-block-eq0 : goal.returns-then-block-eq0
unfolding quiet
returns-then-block-eq0 c =
    rw (eq-eqb _ 0 c.if-block-eq0.true)

pub returns-then-b-ge-MAX_BLOCKS : goal.returns-then-b-ge-MAX_BLOCKS
unfolding quiet
returns-then-b-ge-MAX_BLOCKS c =
    rw (ne_eqb _ 0 c.if-block-eq0.false, le-ltb _ 256 c.if-b-ge-MAX_BLOCKS.true)

pub returns-then-number : goal.returns-then-number
unfolding quiet
returns-then-number c =
    rw (
      ne_eqb _ 0 c.if-block-eq0.false,
      lt-ltb _ 256 c.if-b-ge-MAX_BLOCKS.false,
      ← c.number.ensures,
      ← c.number-2.ensures,
      ne_eqb _ _ c.if-number.true,
    )

pub returns : goal.returns
unfolding quiet
returns c =
    rw (
      ne_eqb _ 0 c.if-block-eq0.false,
      lt-ltb _ 256 c.if-b-ge-MAX_BLOCKS.false,
      ← c.number.ensures,
      ← c.number-2.ensures,
      eq-eqb _ _ c.if-number.false,
      ← c.number-3.ensures,
    )
