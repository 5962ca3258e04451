-- `sooner_at` meets its contract, by cases on the times.
use Rattle.machine.specs.All.{arith, lt-ltb, le-ltb, eq-eqb, ne_eqb}
use Rattle.rows_laws.specs.All.{sooner_at}
use Rattle.rows.proofs.order.sooner_at.Goals as goal

pub returns-then-due-other : goal.returns-then-due-other
unfolding sooner_at
returns-then-due-other c = rw (← c.time-other.ensures, lt-ltb _ _ c.if-due-other.true)

pub returns-then-other-due : goal.returns-then-other-due
unfolding sooner_at
returns-then-other-due c =
    rw (← c.time-other.ensures, le-ltb _ _ c.if-due-other.false, ne_eqb c.args.due c.time-other.result (λ e. omega arith))

pub returns : goal.returns
unfolding sooner_at
returns c =
    rw (← c.time-other.ensures, le-ltb _ _ c.if-due-other.false, eq-eqb c.args.due c.time-other.result (omega arith))
    c.outranks.ensures
