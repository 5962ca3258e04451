-- `trace::read_record` meets its contract: the answers of its fields in their order.
use Rattle.codec.proofs.{Answers.passed-on, Fields.value-parsed, Fields.refusal-parsed}
use Rattle.trace.proofs.Reader.{past_end, clock-refused, transaction-refused, block_refused, outcome-refused, record-taken}
use Rattle.trace.proofs.read_record.Goals as goal

pub returns-then-s-at : goal.returns-then-s-at
returns-then-s-at c = past_end _ _ c.if-s-at.true

pub returns-in_err-clock : goal.returns-in_err-clock
returns-in_err-clock c =
    let is = passed-on _ _ c.from_residual.ensures.1 in
    rw is
    (clock-refused _ _ c.if-s-at.false _
    (refusal-parsed 0 0 _ (c.trace_field.ensures.by_index 0 0) c.in_err-clock.was))

pub returns-in_err-transaction : goal.returns-in_err-transaction
returns-in_err-transaction c =
    let is = passed-on _ _ c.from_residual-in_err-transaction.ensures.1 in
    rw is
    (transaction-refused _ _ c.if-s-at.false _ _
    (value-parsed 0 0 _ (c.trace_field.ensures.by_index 0 0) c.in_ok-clock.was) _
    (refusal-parsed 0 0 _ (c.trace_field-2.ensures.by_index 0 0) c.in_err-transaction.was))

pub returns-in_err-block : goal.returns-in_err-block
returns-in_err-block c =
    let is = passed-on _ _ c.from_residual-in_err-block.ensures.1 in
    rw is
    (block_refused _ _ c.if-s-at.false _ _
    (value-parsed 0 0 _ (c.trace_field.ensures.by_index 0 0) c.in_ok-clock.was) _ _
    (value-parsed 0 0 _ (c.trace_field-2.ensures.by_index 0 0) c.in_ok-transaction.was) _
    (refusal-parsed 0 0 _ (c.trace_field-3.ensures.by_index 0 0) c.in_err-block.was))

pub returns-in_err-outcome : goal.returns-in_err-outcome
returns-in_err-outcome c =
    let is = passed-on _ _ c.from_residual-in_err-outcome.ensures.1 in
    rw is
    (outcome-refused _ _ c.if-s-at.false _ _
    (value-parsed 0 0 _ (c.trace_field.ensures.by_index 0 0) c.in_ok-clock.was) _ _
    (value-parsed 0 0 _ (c.trace_field-2.ensures.by_index 0 0) c.in_ok-transaction.was) _ _
    (value-parsed 0 0 _ (c.trace_field-3.ensures.by_index 0 0) c.in_ok-block.was) _
    (refusal-parsed 0 0 _ (c.trace_field-4.ensures.by_index 0 0) c.in_err-outcome.was))

pub returns : goal.returns
returns c =
    record-taken _ _ c.if-s-at.false _ _
    (value-parsed 0 0 _ (c.trace_field.ensures.by_index 0 0) c.in_ok-clock.was) _ _
    (value-parsed 0 0 _ (c.trace_field-2.ensures.by_index 0 0) c.in_ok-transaction.was) _ _
    (value-parsed 0 0 _ (c.trace_field-3.ensures.by_index 0 0) c.in_ok-block.was) _ _
    (value-parsed 0 0 _ (c.trace_field-4.ensures.by_index 0 0) c.in_ok-outcome.was)
