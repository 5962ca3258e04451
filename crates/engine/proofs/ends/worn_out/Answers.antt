-- `worn_out` meets its contract: serials, then turns.
use Rattle.machine.specs.All.{lt-ltb, le-ltb}
use Rattle.engine_laws.specs.Ends.{worn_rows}
use Rattle.engine.proofs.ends.worn_out.Goals as goal

pub returns-then-x-gt-MAX_SERIAL : goal.returns-then-x-gt-MAX_SERIAL
unfolding worn_rows
returns-then-x-gt-MAX_SERIAL c = rw (lt-ltb _ _ c.if-x-gt-MAX_SERIAL.true)

pub returns-else-x-gt-MAX_SERIAL : goal.returns-else-x-gt-MAX_SERIAL
unfolding worn_rows
returns-else-x-gt-MAX_SERIAL c = rw (le-ltb _ _ c.if-x-gt-MAX_SERIAL.false)
