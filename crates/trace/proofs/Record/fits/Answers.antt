-- `Record::fits` meets its contract: where there is room for any record, there is for this one.
use Rattle.machine.specs.All.{arith, le-leb, length, record_bytes}
use Rattle.trace.specs.{entry_of}
use Rattle.trace.proofs.Writer.{record-room}
use Rattle.trace.proofs.Record.fits.Goals as goal

pub returns-then-room-ge-RECORD_ROOM : goal.returns-then-room-ge-RECORD_ROOM
returns-then-room-ge-RECORD_ROOM c =
    let least = record-room (entry_of c.args.self) c.requires in
    rw (le-leb _ _ c.if-room-ge-RECORD_ROOM.true, le-leb (length (record_bytes (entry_of c.args.self))) c.args.room (omega (arith, least)))
