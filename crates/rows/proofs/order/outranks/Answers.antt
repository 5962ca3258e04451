-- `outranks` meets its contract, by cases on the priorities.
use Rattle.machine.specs.All.{arith, lt-ltb, le-ltb, eq-eqb, ne_eqb}
use Rattle.rows_laws.specs.All.{outranks}
use Rattle.rows.proofs.order.outranks.Goals as goal

pub returns-then-b-a : goal.returns-then-b-a
unfolding outranks
returns-then-b-a c = rw (← c.priority-a.ensures, ← c.priority-b.ensures, lt-ltb _ _ c.if-b-a.true)

pub returns-then-a-b : goal.returns-then-a-b
unfolding outranks
returns-then-a-b c =
    rw (
      ← c.priority-a.ensures,
      ← c.priority-b.ensures,
      le-ltb _ _ c.if-b-a.false,
      ne_eqb c.priority-a.result c.priority-b.result (λ e. omega arith),
    )

pub returns : goal.returns
unfolding outranks
returns c =
    rw (
      ← c.priority-a.ensures,
      ← c.priority-b.ensures,
      le-ltb _ _ c.if-b-a.false,
      eq-eqb c.priority-a.result c.priority-b.result (omega arith),
      ← c.read.ensures,
      ← c.read-2.ensures,
    )
