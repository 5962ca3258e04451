-- `append_record` meets its contract: the rest behind `used` is what the writer leaves.
use Rattle.machine.specs.All.{sym, ap, ◌∙◌, lt-leb}
use Rattle.trace.specs.Answers.{writing_of}
use Rattle.turn_laws.specs.Note.{bytes, append_record}
use Rattle.turn_laws.proofs.Notes.{rest-is, appends, refuses}
use Rattle.turn.proofs.note.append_record.Goals as goal

pub returns-then-trace-used : goal.returns-then-trace-used
unfolding bytes append_record
returns-then-trace-used c =
    sym (rw (lt-leb _ _ c.if-trace-used.true))

pub returns-in-Ok : goal.returns-in-Ok
returns-in-Ok c =
    let w = c.write_record in
    let a = c.args in
    rw (← c.number.ensures)
    (appends a.trace.now w.new.rest a.used a.clock a.number a.block c.number.result
    c.if-trace-used.false _ _ _ (rest-is a.trace.now a.used)
    (ap (writing_of w.new.rest) (sym c.in-Ok.is) ∙ w.ensures.result_after) w.ensures.bytes
    (w.ensures.count _ c.in-Ok.is).0)

pub returns-in-Err : goal.returns-in-Err
returns-in-Err c =
    let w = c.write_record in
    let a = c.args in
    rw (← c.number.ensures)
    (refuses a.trace.now w.new.rest a.used a.clock a.number a.block c.number.result
    c.if-trace-used.false _ _ (rest-is a.trace.now a.used)
    (ap (writing_of w.new.rest) (sym c.in-Err.is) ∙ w.ensures.result_after) w.ensures.bytes)
