-- `trace::write_record` meets its contract: out of range, no room, or the record stored at the front of the rest.
use Rattle.machine.specs.All.{clash, sym, ◌∙◌, leb-true, leb-false}
use Rattle.trace.proofs.Writer.{refused-range, refused-room, written_record, after-refused, after-written, front-written, bytes_count}
use Rattle.trace.proofs.write_record.Goals as goal

pub returns-then-not-in_ranges : goal.returns-then-not-in_ranges
returns-then-not-in_ranges c =
    let e = refused-range _ c.args.rest.now (sym c.in_ranges.ensures ∙ c.if-not-in_ranges.true) in
    record {
      result_after = e;
      bytes = after-refused _ _ 32 e;
      count = λ n h. clash (cc);
    }

pub fits-requires : goal.fits-requires
fits-requires c =
    sym c.in_ranges.ensures ∙ c.if-not-in_ranges.false

pub returns-then-not-fits : goal.returns-then-not-fits
returns-then-not-fits c =
    let full = leb-false _ _ (sym c.fits.ensures ∙ c.if-not-fits.true) in
    let e = refused-room _ c.args.rest.now (sym c.in_ranges.ensures ∙ c.if-not-in_ranges.false) full in
    record {
      result_after = e;
      bytes = after-refused _ _ 33 e;
      count = λ n h. clash (cc);
    }

pub put_record-requires : goal.put_record-requires
put_record-requires c =
    record {
      outcome_value = sym c.in_ranges.ensures ∙ c.if-not-in_ranges.false;
      outcome_in_bounds = leb-true _ _ (sym c.fits.ensures ∙ c.if-not-fits.false);
    }

pub returns : goal.returns
returns c =
    let l = c.args.rest.now in
    let room = leb-true _ _ (sym c.fits.ensures ∙ c.if-not-fits.false) in
    let len = c.put_record.ensures.count in
    let stored = c.put_record.ensures.bytes in
    let e = written_record _ l (sym c.in_ranges.ensures ∙ c.if-not-in_ranges.false) room in record {
      result_after = rw (len, stored) (cc (front-written _ l room, e));
      bytes = stored ∙ after-written _ l e room;
      count = λ n h. bytes_count h len room;
    }
