-- `columns::survey::survey_columns` meets its contract: the count, the columns in their order, and nothing behind them.
use Rattle.machine.specs.All.{sym, ◌∙◌, arith}
use Rattle.codec.proofs.Fields.{value-parsed, refusal-parsed}
use Rattle.columns_laws.proofs.Surveying.{err_of, ok_of, survey-count, survey-clocks, survey-transactions, survey-blocks, survey-outcomes, survey_long, survey-fits, survey-taken}
use Rattle.columns.proofs.survey.survey_columns.Goals as goal

pub returns-in_err-count : goal.returns-in_err-count
returns-in_err-count c =
    let err = err_of _ (sym c.ok.ensures.value ∙ c.in_err-count.was) in
    rw c.from_residual.ensures
    (survey-count c.args.s.now (λ i. omega (arith, c.type_inv.s i)) _ (refusal-parsed 0 0 _ (c.trace_field.ensures.by_index 0 0) err.1))

pub scan_clocks-requires : goal.scan_clocks-requires
scan_clocks-requires c =
    let read = ok_of _ _ (sym c.ok.ensures.value ∙ c.in_ok-count.was) in
    (c.trace_field.ensures.inside _ _ read).1

pub returns-in_err-transactions : goal.returns-in_err-transactions
returns-in_err-transactions c =
    let read = ok_of _ _ (sym c.ok.ensures.value ∙ c.in_ok-count.was) in
    rw c.from_residual-in_err-transactions.ensures
    (survey-clocks c.args.s.now (λ i. omega (arith, c.type_inv.s i)) _ _ (c.trace_field.ensures.inside _ _ read).1
    (value-parsed 0 0 _ (c.trace_field.ensures.by_index 0 0) read)
    (sym c.in_err-transactions.was ∙ c.scan_clocks.ensures))

pub returns-in_err-blocks : goal.returns-in_err-blocks
returns-in_err-blocks c =
    let read = ok_of _ _ (sym c.ok.ensures.value ∙ c.in_ok-count.was) in
    rw c.from_residual-in_err-blocks.ensures
    (survey-transactions c.args.s.now (λ i. omega (arith, c.type_inv.s i)) _ _ (c.trace_field.ensures.inside _ _ read).1
    (value-parsed 0 0 _ (c.trace_field.ensures.by_index 0 0) read) _ _
    (sym c.in_ok-transactions.was ∙ c.scan_clocks.ensures)
    (sym c.in_err-blocks.was ∙ c.scan_column.ensures))

pub returns-in_err-outcomes : goal.returns-in_err-outcomes
returns-in_err-outcomes c =
    let read = ok_of _ _ (sym c.ok.ensures.value ∙ c.in_ok-count.was) in
    rw c.from_residual-in_err-outcomes.ensures
    (survey-blocks c.args.s.now (λ i. omega (arith, c.type_inv.s i)) _ _ (c.trace_field.ensures.inside _ _ read).1
    (value-parsed 0 0 _ (c.trace_field.ensures.by_index 0 0) read) _ _
    (sym c.in_ok-transactions.was ∙ c.scan_clocks.ensures) _
    (sym c.in_ok-blocks.was ∙ c.scan_column.ensures)
    (sym c.in_err-outcomes.was ∙ c.scan_column-2.ensures))

pub returns-in_err-end : goal.returns-in_err-end
returns-in_err-end c =
    let read = ok_of _ _ (sym c.ok.ensures.value ∙ c.in_ok-count.was) in
    rw c.from_residual-in_err-end.ensures
    (survey-outcomes c.args.s.now (λ i. omega (arith, c.type_inv.s i)) _ _ (c.trace_field.ensures.inside _ _ read).1
    (value-parsed 0 0 _ (c.trace_field.ensures.by_index 0 0) read) _ _
    (sym c.in_ok-transactions.was ∙ c.scan_clocks.ensures) _
    (sym c.in_ok-blocks.was ∙ c.scan_column.ensures) _
    (sym c.in_ok-outcomes.was ∙ c.scan_column-2.ensures)
    (sym c.in_err-end.was ∙ c.scan_column-3.ensures))

pub returns-then-end-s : goal.returns-then-end-s
returns-then-end-s c =
    let read = ok_of _ _ (sym c.ok.ensures.value ∙ c.in_ok-count.was) in
    survey_long c.args.s.now (λ i. omega (arith, c.type_inv.s i)) _ _ (c.trace_field.ensures.inside _ _ read).1
    (value-parsed 0 0 _ (c.trace_field.ensures.by_index 0 0) read) _ _
    (sym c.in_ok-transactions.was ∙ c.scan_clocks.ensures) _
    (sym c.in_ok-blocks.was ∙ c.scan_column.ensures) _
    (sym c.in_ok-outcomes.was ∙ c.scan_column-2.ensures) _
    (sym c.in_ok-end.was ∙ c.scan_column-3.ensures)
    c.if-end-s.true

pub overflow_sub-result : goal.overflow_sub-result
overflow_sub-result c =
    let read = ok_of _ _ (sym c.ok.ensures.value ∙ c.in_ok-count.was) in
    let fits = survey-fits c.args.s.now (λ i. omega (arith, c.type_inv.s i)) _ _ (c.trace_field.ensures.inside _ _ read).1
    (value-parsed 0 0 _ (c.trace_field.ensures.by_index 0 0) read) _ _
    (sym c.in_ok-transactions.was ∙ c.scan_clocks.ensures) _
    (sym c.in_ok-blocks.was ∙ c.scan_column.ensures) _
    (sym c.in_ok-outcomes.was ∙ c.scan_column-2.ensures) _
    (sym c.in_ok-end.was ∙ c.scan_column-3.ensures) in
    omega (arith, fits.0, fits.1, fits.2)

pub overflow_add-result : goal.overflow_add-result
overflow_add-result c =
    let read = ok_of _ _ (sym c.ok.ensures.value ∙ c.in_ok-count.was) in
    let fits = survey-fits c.args.s.now (λ i. omega (arith, c.type_inv.s i)) _ _ (c.trace_field.ensures.inside _ _ read).1
    (value-parsed 0 0 _ (c.trace_field.ensures.by_index 0 0) read) _ _
    (sym c.in_ok-transactions.was ∙ c.scan_clocks.ensures) _
    (sym c.in_ok-blocks.was ∙ c.scan_column.ensures) _
    (sym c.in_ok-outcomes.was ∙ c.scan_column-2.ensures) _
    (sym c.in_ok-end.was ∙ c.scan_column-3.ensures) in
    omega (arith, fits.0, fits.1, fits.2)

pub returns : goal.returns
returns c =
    let read = ok_of _ _ (sym c.ok.ensures.value ∙ c.in_ok-count.was) in
    survey-taken c.args.s.now (λ i. omega (arith, c.type_inv.s i)) _ _ (c.trace_field.ensures.inside _ _ read).1
    (value-parsed 0 0 _ (c.trace_field.ensures.by_index 0 0) read) _ _
    (sym c.in_ok-transactions.was ∙ c.scan_clocks.ensures) _
    (sym c.in_ok-blocks.was ∙ c.scan_column.ensures) _
    (sym c.in_ok-outcomes.was ∙ c.scan_column-2.ensures) _
    (sym c.in_ok-end.was ∙ c.scan_column-3.ensures)
    c.if-end-s.false
