-- `asked` meets its contract: the clock first, then the block of whoever moved.
use Rattle.machine.specs.All.{lt-ltb, le-ltb}
use Rattle.turn_laws.specs.Turn.{asks}
use Rattle.turn.proofs.acting.asked.Goals as goal

pub returns-then-clock_asked : goal.returns-then-clock_asked
unfolding asks
returns-then-clock_asked c =
    rw (← c.clock_asked.ensures, c.if-clock_asked.true)

pub returns-then-b-ge-MAX_BLOCKS : goal.returns-then-b-ge-MAX_BLOCKS
unfolding asks
returns-then-b-ge-MAX_BLOCKS c =
    rw (← c.clock_asked.ensures, c.if-clock_asked.false, ← c.saturating_sub-b.ensures, le-ltb _ 256 c.if-b-ge-MAX_BLOCKS.true)

pub returns : goal.returns
unfolding asks
returns c =
    rw (
      ← c.clock_asked.ensures,
      c.if-clock_asked.false,
      ← c.saturating_sub-b.ensures,
      lt-ltb _ 256 c.if-b-ge-MAX_BLOCKS.false,
      ← c.number.ensures,
    )
