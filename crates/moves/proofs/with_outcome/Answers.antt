-- `with_outcome` meets its contract, by cases on the outcome.
use Rattle.machine.specs.All.{◌≡◌, ◌≤◌, arith, ne_eqb}
use Rattle.moves.specs.{with_outcome}
use Rattle.moves.proofs.with_outcome.Goals as goal

pub returns-in-Entered : goal.returns-in-Entered
unfolding with_outcome
returns-in-Entered c =
    let entered : c.args.outcome ≡ 0 = omega (arith, rw c.in-Entered.is at c.note.ensures) in
    rw (c.by_fields-y.ensures, entered)

pub returns-in-Waits : goal.returns-in-Waits
unfolding with_outcome
returns-in-Waits c =
    let waits : c.args.outcome ≡ 1 = omega (arith, rw c.in-Waits.is at c.note.ensures) in
    rw (c.by_fields-y.ensures, c.saturating_add.ensures, waits)

pub returns-in-NoRecord : goal.returns-in-NoRecord
unfolding with_outcome
returns-in-NoRecord c =
    let none : 2 ≤ c.args.outcome = omega (arith, rw c.in-NoRecord.is at c.note.ensures) in
    rw (c.by_fields-y.ensures, ne_eqb c.args.outcome 0 (omega arith), ne_eqb c.args.outcome 1 (omega arith))
