-- `trace::write_one` meets its contract: out of range, no room, or the record stored at the front of the rest.
use Rattle.machine.specs.All.{clash, ◌≤◌, sym, ◌∙◌, arith, length, record_bytes}
use Rattle.trace.specs.{entry_of}
use Rattle.trace.proofs.Writer.{refused-range, refused-room, written_record, after-refused, after-written, front-written, bytes_count}
use Rattle.trace.proofs.write_one.Goals as goal

pub returns-then-not-in_ranges : goal.returns-then-not-in_ranges
returns-then-not-in_ranges c =
    let e = refused-range _ c.args.rest.now (sym c.in_ranges.ensures ∙ c.if-not-in_ranges.true) in
    record {
      result_after = e;
      bytes = after-refused _ _ 32 e;
      count = λ n h. clash (cc);
    }

pub returns-then-rest-len : goal.returns-then-rest-len
returns-then-rest-len c =
    let e = refused-room _ c.args.rest.now (sym c.in_ranges.ensures ∙ c.if-not-in_ranges.false)
    (omega arith) in
    record {
      result_after = e;
      bytes = after-refused _ _ 33 e;
      count = λ n h. clash (cc);
    }

pub returns : goal.returns
returns c =
    let l = c.args.rest.now in
    let len = c.len-len.ensures in
    let stored = c.place_record.ensures in
    let r = entry_of c.args.r in
    let room : length (record_bytes r) ≤ length l = omega (arith, len) in
    let e = written_record r l (sym c.in_ranges.ensures ∙ c.if-not-in_ranges.false) room in record {
      result_after = rw (len, stored) (cc (front-written r l room, e));
      bytes = stored ∙ after-written r l e room;
      count = λ n h. (bytes_count h len room).1;
    }
