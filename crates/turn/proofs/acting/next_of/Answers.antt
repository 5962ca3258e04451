-- `next_of` meets its contract, by who moves.
use Rattle.machine.specs.All.{lt-ltb, le-ltb}
use Rattle.turn_laws.specs.Turn.{next_of}
use Rattle.turn.proofs.acting.next_of.Goals as goal

pub returns-in-Some : goal.returns-in-Some
unfolding next_of
returns-in-Some c =
    rw (c.in-Some.ensures.0, lt-ltb _ 1024 c.in-Some.ensures.1) c.read.ensures

pub returns-in-None : goal.returns-in-None
unfolding next_of
returns-in-None c =
    rw (le-ltb _ 1024 c.in-None.ensures)
