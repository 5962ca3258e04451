-- `columns::survey::scan_column` meets its contract. The loop's invariant: where the numbers that are left end is where all end.
use Rattle.machine.specs.All.{suc, ◌+◌, ◌-◌, ◌≤◌, ◌≡◌, sym, ◌∙◌, arith}
use Rattle.columns_laws.proofs.Surveying.{err_of, ok_of, column-none, column-stop, column-step}
use Rattle.columns.proofs.survey.scan_column.Goals as goal

pub returns-in_err-next : goal.returns-in_err-next
returns-in_err-next c =
    let one : c.args.count - c.loop.counter ≡ suc (c.args.count - (c.loop.counter + 1)) = omega arith in
    let err = err_of _ (sym c.ok.ensures.value ∙ c.in_err-next.was) in
    c.from_residual.ensures ∙ column-stop _ _ _ _ _ _ _ one c.trace_field.ensures.by_index err.1 ∙ c.loop.invariant

pub loop-preserved : goal.loop-preserved
loop-preserved c =
    let one : c.args.count - c.loop.counter ≡ suc (c.args.count - (c.loop.counter + 1)) = omega arith in
    let read = ok_of _ _ (sym c.ok.ensures.value ∙ c.in_ok-next.was) in
    column-step _ _ _ _ _ _ _ one c.trace_field.ensures.by_index read ∙ c.loop.invariant

pub returns : goal.returns
returns c =
    let none : c.args.count - c.loop.counter ≤ 0 = omega arith in
    column-none _ _ _ _ _ none ∙ c.loop.invariant
