-- `columns::measure::measure_record` meets its contract: what the reader answers, then the two tests.
use Rattle.machine.specs.All.{◌≡◌, ◌∙◌}
use Rattle.std.specs.{Prelude.Some, Option.option_flatten, Result.result_ok}
use Rattle.columns_laws.proofs.Measuring.{measured-none, measured_fallen, measured-many, measured-taken}
use Rattle.columns.proofs.measure.measure_record.Goals as goal

pub returns-in_err-r : goal.returns-in_err-r
returns-in_err-r c =
    c.from_residual.ensures
    ∙ measured-none _ _ _ c.read_record.ensures (rw (← c.ok.ensures.value, ← c.flatten.ensures) c.in_err-r.was)

pub returns-then-r-t : goal.returns-then-r-t
returns-then-r-t c =
    let read : option_flatten (result_ok c.read_record.result) ≡ Some (c.in_ok-r.r, c.in_ok-r.next) =
    rw (← c.ok.ensures.value, ← c.flatten.ensures) c.in_ok-r.was in
    measured_fallen _ _ _ c.read_record.ensures read c.if-r-t.true

pub returns-then-count-eq-MAX_RECORDS : goal.returns-then-count-eq-MAX_RECORDS
returns-then-count-eq-MAX_RECORDS c =
    let read : option_flatten (result_ok c.read_record.result) ≡ Some (c.in_ok-r.r, c.in_ok-r.next) =
    rw (← c.ok.ensures.value, ← c.flatten.ensures) c.in_ok-r.was in
    measured-many _ _ _ c.read_record.ensures read
    c.if-r-t.false c.if-count-eq-MAX_RECORDS.true

pub returns : goal.returns
returns c =
    let read : option_flatten (result_ok c.read_record.result) ≡ Some (c.in_ok-r.r, c.in_ok-r.next) =
    rw (← c.ok.ensures.value, ← c.flatten.ensures) c.in_ok-r.was in
    measured-taken _ _ _ c.read_record.ensures read
    c.if-r-t.false c.if-count-eq-MAX_RECORDS.false c.longer.ensures
