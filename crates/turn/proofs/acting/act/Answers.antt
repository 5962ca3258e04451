-- `act` meets its contract: the block, then its record.
use Rattle.machine.specs.All.{lt-ltb, le-ltb}
use Rattle.turn_laws.specs.Turn.{act}
use Rattle.turn_laws.proofs.Parts.{note-joined}
use Rattle.turn.proofs.acting.act.Goals as goal

pub returns-then-b-ge-MAX_BLOCKS : goal.returns-then-b-ge-MAX_BLOCKS
unfolding act
returns-then-b-ge-MAX_BLOCKS c =
    rw (← c.saturating_sub-b.ensures, le-ltb _ 256 c.if-b-ge-MAX_BLOCKS.true, c.scalars.ensures.same)

pub returns : goal.returns
unfolding act
returns c =
    rw (← c.saturating_sub-b.ensures, lt-ltb _ 256 c.if-b-ge-MAX_BLOCKS.false)
    (note-joined _ _ _ _ _ _ _ _ _ _ c.execute-y.ensures c.note_record.ensures)
