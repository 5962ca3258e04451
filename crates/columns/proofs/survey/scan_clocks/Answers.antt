-- `columns::survey::scan_clocks` meets its contract. The loop's invariant: what the differences that are left give is what all give, and
-- the sums are within their limits.
use Rattle.machine.specs.All.{suc, ◌+◌, ◌-◌, ◌≤◌, ◌≡◌, sym, ◌∙◌, arith}
use Rattle.columns_laws.proofs.Surveying.{err_of, ok_of, nine, clocks-none, clocks-stop, clocks-step}
use Rattle.columns.proofs.survey.scan_clocks.Goals as goal

pub returns-in_err-difference : goal.returns-in_err-difference
returns-in_err-difference c =
    let one : c.args.count - c.loop.counter ≡ suc (c.args.count - (c.loop.counter + 1)) = omega arith in
    let err = err_of _ (sym c.ok.ensures.value ∙ c.in_err-difference.was) in
    c.from_residual.ensures ∙ clocks-stop _ _ _ _ _ _ _ one c.trace_field.ensures.by_index err.1 ∙ c.loop.invariant.2

pub overflow_add-size : goal.overflow_add-size
overflow_add-size c = omega (arith, c.loop.invariant.1, nine _ _ c.number_len-size.ensures)

pub loop-preserved : goal.loop-preserved
loop-preserved c =
    let one : c.args.count - c.loop.counter ≡ suc (c.args.count - (c.loop.counter + 1)) = omega arith in
    let read = ok_of _ _ (sym c.ok.ensures.value ∙ c.in_ok-difference.was) in (
      omega (arith, c.loop.invariant.0, c.trace_field.ensures.inside _ _ read),
      omega (arith, c.loop.invariant.1, nine _ _ c.number_len-size.ensures),
      clocks-step _ _ _ _ _ _ _ one c.trace_field.ensures.by_index read c.number_len-size.ensures ∙ c.loop.invariant.2,
    )

pub returns : goal.returns
returns c =
    let none : c.args.count - c.loop.counter ≤ 0 = omega arith in
    clocks-none _ _ _ _ _ none ∙ c.loop.invariant.2
