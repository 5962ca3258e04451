-- `join::join` meets its contract: each pair as it is judged, then both. Assumes nothing.
use Rattle.machine.specs.All.{rules}
use Rattle.codec.proofs.Answers.{passed-on}
use Rattle.join.proofs.Pairing.{first-refused, second-refused, pair-ready, pair-done}
use Rattle.join.proofs.join.Goals as goal

pub invariant_of-first : goal.invariant_of-first
invariant_of-first c =
    let with = c.args in
    let ready =
    pair-ready with.model1.now with.tape1.now with.model2.now with.tape2.now _ _ _
    c.decode.ensures _ c.in_ok-a.was _ _ _ c.decode-2.ensures _ c.in_ok-b.was in
    record { fits = ready.first; whole = search rules }

pub invariant_of-second : goal.invariant_of-second
invariant_of-second c =
    let with = c.args in
    let ready =
    pair-ready with.model1.now with.tape1.now with.model2.now with.tape2.now _ _ _
    c.decode.ensures _ c.in_ok-a.was _ _ _ c.decode-2.ensures _ c.in_ok-b.was in
    record { fits = ready.second; whole = search rules }

pub pair-requires : goal.pair-requires
pair-requires c =
    let with = c.args in
    pair-ready with.model1.now with.tape1.now with.model2.now with.tape2.now _ _ _
    c.decode.ensures _ c.in_ok-a.was _ _ _ c.decode-2.ensures _ c.in_ok-b.was

pub returns-in_err-a : goal.returns-in_err-a
returns-in_err-a c =
    let with = c.args in
    rw (passed-on _ _ c.from_residual.ensures.1)
    (first-refused with.model1.now with.tape1.now with.model2.now with.tape2.now _ _ _
    c.decode.ensures with.out_model.now with.out_tape.now _ c.in_err-a.was)

pub returns-in_err-b : goal.returns-in_err-b
returns-in_err-b c =
    let with = c.args in
    rw (passed-on _ _ c.from_residual-in_err-b.ensures.1)
    (second-refused with.model1.now with.tape1.now with.model2.now with.tape2.now _ _ _
    c.decode.ensures _ c.in_ok-a.was _ _ _ c.decode-2.ensures with.out_model.now with.out_tape.now _ c.in_err-b.was)

pub returns : goal.returns
returns c =
    let with = c.args in
    pair-done with.model1.now with.tape1.now with.model2.now with.tape2.now _ _ _
    c.decode.ensures _ c.in_ok-a.was _ _ _ c.decode-2.ensures _ c.in_ok-b.was with.out_model.now
    with.out_tape.now _ _ _ c.pair.ensures
