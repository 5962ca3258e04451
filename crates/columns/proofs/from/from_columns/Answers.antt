-- `columns::from_columns` meets its contract: what the survey says, the room, and the records written again.
use Rattle.machine.specs.All.{◌≡◌, arith}
use Rattle.std.specs.Prelude.{Some, None, Err}
use Rattle.codec.proofs.Answers.{refused-by}
use Rattle.columns_laws.proofs.Answers.{surveyed-none, surveyed-taken, from-51, from-52, from_bytes}
use Rattle.constants.specs.declared.refusals.Refusal.TheVariants.{NoColumns}
use Rattle.columns.proofs.from.from_columns.Goals as goal

pub returns-in_err-count-clause-result_after : goal.returns-in_err-count-clause-result_after
returns-in_err-count-clause-result_after c =
    let none : c.survey_columns.result ≡ None = c.in_err-count.ensures.ok_part in
    let is : c.from_residual.result ≡ Err NoColumns =
    refused-by c.survey_columns.result NoColumns _ _ c.from_residual.ensures.1 c.in_err-count.ensures.value in
    rw is (from-51 _ _ (surveyed-none _ _ c.survey_columns.ensures none)).0

pub returns-in_err-count-clause-bytes : goal.returns-in_err-count-clause-bytes
returns-in_err-count-clause-bytes c =
    let none : c.survey_columns.result ≡ None = c.in_err-count.ensures.ok_part in
    (from-51 _ _ (surveyed-none _ _ c.survey_columns.ensures none)).1

pub returns-then-out-len-clause-result_after : goal.returns-then-out-len-clause-result_after
returns-then-out-len-clause-result_after c =
    let some : c.survey_columns.result ≡ Some (c.in_ok-count.count, c.in_ok-count.start, c.in_ok-count.len) = c.in_ok-count.ensures.ok_part in
    (from-52 _ _ _ _ (surveyed-taken _ _ c.survey_columns.ensures some) _ c.if-out-len.true).0

pub returns-then-out-len-clause-bytes : goal.returns-then-out-len-clause-bytes
returns-then-out-len-clause-bytes c =
    let some : c.survey_columns.result ≡ Some (c.in_ok-count.count, c.in_ok-count.start, c.in_ok-count.len) = c.in_ok-count.ensures.ok_part in
    (from-52 _ _ _ _ (surveyed-taken _ _ c.survey_columns.ensures some) _ c.if-out-len.true).1

pub write_trace-requires : goal.write_trace-requires
write_trace-requires c =
    let some : c.survey_columns.result ≡ Some (c.in_ok-count.count, c.in_ok-count.start, c.in_ok-count.len) = c.in_ok-count.ensures.ok_part in
    omega (arith, (surveyed-taken _ _ c.survey_columns.ensures some).clock)

pub returns-clause-result_after : goal.returns-clause-result_after
returns-clause-result_after c =
    let some : c.survey_columns.result ≡ Some (c.in_ok-count.count, c.in_ok-count.start, c.in_ok-count.len) = c.in_ok-count.ensures.ok_part in
    (from_bytes _ _ _ _ (surveyed-taken _ _ c.survey_columns.ensures some) _ c.if-out-len.false _ c.write_trace.ensures).0

pub returns-clause-bytes : goal.returns-clause-bytes
returns-clause-bytes c =
    let some : c.survey_columns.result ≡ Some (c.in_ok-count.count, c.in_ok-count.start, c.in_ok-count.len) = c.in_ok-count.ensures.ok_part in
    (from_bytes _ _ _ _ (surveyed-taken _ _ c.survey_columns.ensures some) _ c.if-out-len.false _ c.write_trace.ensures).1
