-- `trace::place_record` meets its contract: four numbers written one after the other are the record stored at once.
use Rattle.trace.proofs.Writer.{written_behind}
use Rattle.trace.proofs.place_record.Goals as goal

pub returns : goal.returns
returns c =
    written_behind _ _ _ _ _ _ _ _ _ _ c.requires c.write_number-p1.ensures c.write_number-p2.ensures
    c.write_number-p3.ensures c.write_number.ensures
