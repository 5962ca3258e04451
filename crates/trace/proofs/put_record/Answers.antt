-- `trace::put_record` meets its contract: four numbers put one after the other are the record stored at once.
use Rattle.machine.specs.All.{arith, ◌++◌, length-append, number_bytes, record_bytes}
use Rattle.trace.specs.{entry_of}
use Rattle.trace.proofs.Writer.{record_bytes-length, small, stored-behind}
use Rattle.trace.proofs.put_record.Goals as goal

pub put_number-p1-requires : goal.put_number-p1-requires
put_number-p1-requires c =
    let r = entry_of c.args.r in
    record {
      v_le_five_groups = (small r c.requires.outcome_value).clock;
      v_in_bounds = omega (arith, record_bytes-length r);
    }

pub put_number-p2-requires : goal.put_number-p2-requires
put_number-p2-requires c =
    let r = entry_of c.args.r in
    record {
      v_le_five_groups = (small r c.requires.outcome_value).transaction;
      v_in_bounds = omega (arith, c.requires.outcome_in_bounds, record_bytes-length r);
    }

pub put_number-p3-requires : goal.put_number-p3-requires
put_number-p3-requires c =
    let r = entry_of c.args.r in
    record {
      v_le_five_groups = (small r c.requires.outcome_value).block;
      v_in_bounds = omega (arith, c.requires.outcome_in_bounds, record_bytes-length r, c.put_number-p1.ensures.position);
    }

pub put_number-requires : goal.put_number-requires
put_number-requires c =
    let r = entry_of c.args.r in record {
      v_le_five_groups = (small r c.requires.outcome_value).outcome;
      v_in_bounds = omega (
        arith,
        c.requires.outcome_in_bounds,
        record_bytes-length r,
        c.put_number-p2.ensures.position,
        c.put_number-p3.ensures.position,
      );
    }

pub returns : goal.returns
unfolding record_bytes
returns c =
    let r = entry_of c.args.r in
    let a = number_bytes r.clock in
    let b = number_bytes r.transaction in
    let d = number_bytes r.block in
    let ab = length-append a b in
    let abd = length-append (a ++ b) d in
    let two = stored-behind a b _ _ _ _ (omega (arith, c.put_number-p1.ensures.position)) c.put_number-p1.ensures.bytes
    c.put_number-p2.ensures.bytes in
    let three = stored-behind (a ++ b) d _ _ _ _
    (omega (arith, ab, c.put_number-p1.ensures.position, c.put_number-p2.ensures.position)) two
    c.put_number-p3.ensures.bytes in record {
      count = omega (
        arith,
        record_bytes-length r,
        c.put_number-p1.ensures.position,
        c.put_number-p2.ensures.position,
        c.put_number-p3.ensures.position,
        c.put_number.ensures.position,
      );
      bytes = stored-behind (a ++ b ++ d) _ _ _ _ _ (omega arith) three c.put_number.ensures.bytes;
    }
