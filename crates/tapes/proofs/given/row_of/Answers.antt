-- `tapes::row_of` meets its contract: the count, then the distribution.
use Rattle.std.proofs.Common.{ℕ, ◌≡◌, ◌≤◌, ◌<◌, sym, ◌∙◌, arith, Result, Ok, Err, Some, None}
use Rattle.std.specs.Result.{OkIff, result_ok}
use Rattle.tapes_laws.specs.Limits.{most_times}
use Rattle.tapes_laws.proofs.{Reading.none-some, Lists.row-many, Lists.row-refused, Lists.row-taken}
use Rattle.tapes.proofs.given.row_of.Goals as goal

-- a number that 16 bits hold,
fits : {E : Type 0} (r : Result ℕ E) (n x : ℕ) → OkIff r (n < 65536) n → result_ok r ≡ Some x → (n ≤ most_times) × (x ≡ n)
fits (Ok y) n x h e = let same : y ≡ x = cc in (omega (arith, h.0), sym same ∙ h.1)
fits (Err d) n x h e = none-some e

-- or a larger one
large : {E : Type 0} (r : Result ℕ E) (n : ℕ) → OkIff r (n < 65536) n → result_ok r ≡ None → most_times < n
large (Ok y) n h e = none-some (sym e)
large (Err d) n h e = omega (arith, h)

pub returns-in_err-count : goal.returns-in_err-count
returns-in_err-count c =
    rw c.from_residual.ensures
    (row-many c.args.list _ 0 (large _ _ c.try_from.ensures (sym c.ok.ensures.value ∙ c.in_err-count.was)))

pub returns-in_err-distribution : goal.returns-in_err-distribution
returns-in_err-distribution c =
    let f = fits _ _ _ c.try_from.ensures (sym c.ok.ensures.value ∙ c.in_ok-count.was) in
    rw c.from_residual-in_err-distribution.ensures
    (row-refused c.args.list _ 0 f.0 _ c.choose.ensures c.in_err-distribution.was)

pub returns : goal.returns
returns c =
    let f = fits _ _ _ c.try_from.ensures (sym c.ok.ensures.value ∙ c.in_ok-count.was) in
    rw f.1 (row-taken c.args.list _ 0 f.0 _ c.choose.ensures _ c.in_ok-distribution.was)
