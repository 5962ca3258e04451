-- `give_back` meets its contract, by cases on the question.
use Rattle.state.proofs.Ends.{end_eqb}
use Rattle.preempt_laws.specs.Preempting.{give_back_rows}
use Rattle.preempt.proofs.give_back.Goals as goal

pub returns-in-Err : goal.returns-in-Err
unfolding give_back_rows
returns-in-Err c =
    let number = rw c.row.ensures at c.read-number.ensures in
    rw (
      ← c.server_at-v.ensures,
      ← number,
      c.stop.ensures,
      c.scalars-in-Err.ensures.same,
      ← c.scalars.ensures.same,
      ← c.in-Err.ensures,
      end_eqb _,
    )

pub returns : goal.returns
unfolding give_back_rows
returns c =
    let number = rw c.row.ensures at c.read-number.ensures in
    let asked = rw c.scalars.ensures.same at c.in_default.ensures in
    rw (← c.server_at-v.ensures, ← number, ← asked) c.give_back_now.ensures
