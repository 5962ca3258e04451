-- `run` meets its contract: a refused run touches nothing; an accepted one is the machine's.
use Rattle.machine.specs.All.{ℕ, ◌≤◌, ap, arith, length}
use Rattle.std.proofs.Common.{length-take-le}
use Rattle.engine_laws.proofs.Running.{run-refused, work-room, fits, run-finished}
use Rattle.engine.proofs.run.Goals as goal

pub accepted-requires : goal.accepted-requires
accepted-requires c =
    let with = c.args in
    let call = c.decode-decoded in
    let h =
    fits with.model.now with.tape.now with.budget with.work.now with.trace.now with.report.now call.new.tables call.new.lists call.result
    call.ensures _ c.in-Ok.is in
    record { facilities_le_max_facilities = h.0; blocks_le_max_blocks = h.1 }

pub returns-in-Err : goal.returns-in-Err
returns-in-Err c =
    run-refused _ _ _ _ _ _ _ _ _ c.decode-decoded.ensures _ _ c.in-Err.is c.refused.ensures

pub returns-in-Some : goal.returns-in-Some
returns-in-Some c =
    let chunk = c.in-Some.ensures.cases in
    let room : 16384 ≤ length c.in-Some.rows.now =
    omega (arith, ap (length {A = ℕ}) chunk.same, length-take-le 16384 c.args.work.now chunk.enough) in
    run-finished _ _ _ _ _ _ _ _ _ c.decode-decoded.ensures _ c.in-Ok.is _ room _ _ _ _ c.accepted.ensures

pub returns-in-None : goal.returns-in-None
returns-in-None c =
    let with = c.args in
    let call = c.decode-decoded in
    let room =
    work-room with.model.now with.tape.now with.budget with.work.now with.trace.now with.report.now call.new.tables call.new.lists call.result
    call.ensures _ c.in-Ok.is in
    absurd (omega (arith, room, c.in-None.ensures.cases))
