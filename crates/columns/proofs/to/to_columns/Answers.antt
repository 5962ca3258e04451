-- `columns::to_columns` meets its contract: what was measured, the room, and the columns written.
use Rattle.machine.specs.All.{◌≡◌, sym, ap, ◌∙◌, arith}
use Rattle.std.specs.Prelude.{Some, None, Err}
use Rattle.codec.proofs.Answers.{refused-by}
use Rattle.columns_laws.specs.Walks.{totals_of}
use Rattle.columns_laws.proofs.Surveying.{nine}
use Rattle.columns_laws.proofs.Answers.{measured-none, measured-some, measured-fits, to-51, to-52, to-bytes}
use Rattle.constants.specs.declared.refusals.Refusal.TheVariants.{NoColumns}
use Rattle.columns.proofs.to.to_columns.Goals as goal

pub returns-in_err-count-clause-result_after : goal.returns-in_err-count-clause-result_after
returns-in_err-count-clause-result_after c =
    let none : c.measure.result ≡ None = c.in_err-count.ensures.ok_part in
    let is : c.from_residual.result ≡ Err NoColumns =
    refused-by c.measure.result NoColumns _ _ c.from_residual.ensures.1 c.in_err-count.ensures.value in
    rw is (to-51 _ _ (measured-none _ (ap totals_of (sym none) ∙ c.measure.ensures))).0

pub returns-in_err-count-clause-bytes : goal.returns-in_err-count-clause-bytes
returns-in_err-count-clause-bytes c =
    let none : c.measure.result ≡ None = c.in_err-count.ensures.ok_part in
    (to-51 _ _ (measured-none _ (ap totals_of (sym none) ∙ c.measure.ensures))).1

pub overflow_add-transactions : goal.overflow_add-transactions
overflow_add-transactions c =
    let some : c.measure.result ≡ Some (c.in_ok-count.count, c.in_ok-count.t) = c.in_ok-count.ensures.ok_part in
    omega (arith, measured-fits _ _ _ (measured-some _ _ _ (ap totals_of (sym some) ∙ c.measure.ensures)), nine _ _ c.number_len-differences.ensures)

pub overflow_add-blocks : goal.overflow_add-blocks
overflow_add-blocks c =
    let some : c.measure.result ≡ Some (c.in_ok-count.count, c.in_ok-count.t) = c.in_ok-count.ensures.ok_part in
    omega (arith, measured-fits _ _ _ (measured-some _ _ _ (ap totals_of (sym some) ∙ c.measure.ensures)), nine _ _ c.number_len-differences.ensures)

pub overflow_add-outcomes : goal.overflow_add-outcomes
overflow_add-outcomes c =
    let some : c.measure.result ≡ Some (c.in_ok-count.count, c.in_ok-count.t) = c.in_ok-count.ensures.ok_part in
    omega (arith, measured-fits _ _ _ (measured-some _ _ _ (ap totals_of (sym some) ∙ c.measure.ensures)), nine _ _ c.number_len-differences.ensures)

pub overflow_add-len : goal.overflow_add-len
overflow_add-len c =
    let some : c.measure.result ≡ Some (c.in_ok-count.count, c.in_ok-count.t) = c.in_ok-count.ensures.ok_part in
    omega (arith, measured-fits _ _ _ (measured-some _ _ _ (ap totals_of (sym some) ∙ c.measure.ensures)), nine _ _ c.number_len-differences.ensures)

pub returns-then-out-len-clause-result_after : goal.returns-then-out-len-clause-result_after
returns-then-out-len-clause-result_after c =
    let some : c.measure.result ≡ Some (c.in_ok-count.count, c.in_ok-count.t) = c.in_ok-count.ensures.ok_part in
    (to-52 _ _ _ (measured-some _ _ _ (ap totals_of (sym some) ∙ c.measure.ensures)) _ c.number_len-differences.ensures _ c.if-out-len.true).0

pub returns-then-out-len-clause-bytes : goal.returns-then-out-len-clause-bytes
returns-then-out-len-clause-bytes c =
    let some : c.measure.result ≡ Some (c.in_ok-count.count, c.in_ok-count.t) = c.in_ok-count.ensures.ok_part in
    (to-52 _ _ _ (measured-some _ _ _ (ap totals_of (sym some) ∙ c.measure.ensures)) _ c.number_len-differences.ensures _ c.if-out-len.true).1

pub returns-clause-result_after : goal.returns-clause-result_after
returns-clause-result_after c =
    let some : c.measure.result ≡ Some (c.in_ok-count.count, c.in_ok-count.t) = c.in_ok-count.ensures.ok_part in
    let room = c.if-out-len.false in
    (to-bytes _ _ _ (measured-some _ _ _ (ap totals_of (sym some) ∙ c.measure.ensures)) _ c.number_len-differences.ensures _ room _ _ _ c.write_number.ensures c.write_columns.ensures).0

pub returns-clause-bytes : goal.returns-clause-bytes
returns-clause-bytes c =
    let some : c.measure.result ≡ Some (c.in_ok-count.count, c.in_ok-count.t) = c.in_ok-count.ensures.ok_part in
    let room = c.if-out-len.false in
    (to-bytes _ _ _ (measured-some _ _ _ (ap totals_of (sym some) ∙ c.measure.ensures)) _ c.number_len-differences.ensures _ room _ _ _ c.write_number.ensures c.write_columns.ensures).1
