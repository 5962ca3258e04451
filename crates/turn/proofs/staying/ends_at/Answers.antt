-- `ends_at` meets its contract, question by question.
use Rattle.machine.specs.All.{eqb, sym, lt-ltb, le-ltb, eq-eqb, ne_eqb, not-true, not-false}
use Rattle.rows_laws.specs.All.{links}
use Rattle.turn_laws.specs.Staying.{ends_at}
use Rattle.turn.proofs.staying.ends_at.Goals as goal

pub returns-then-c-head : goal.returns-then-c-head
unfolding ends_at
returns-then-c-head c =
    rw (← c.queue.ensures, ← c.head.ensures.cell, eq-eqb _ _ c.if-c-head.true)

pub returns-then-c-lt-LINKS : goal.returns-then-c-lt-LINKS
unfolding ends_at
returns-then-c-lt-LINKS c =
    rw (← c.queue.ensures, ← c.head.ensures.cell, ne_eqb _ _ c.if-c-head.false, lt-ltb _ links c.if-c-lt-LINKS.true)

pub returns-then-ne : goal.returns-then-ne
unfolding ends_at
returns-then-ne c =
    rw (
      ← c.queue.ensures,
      ← c.head.ensures.cell,
      ne_eqb _ _ c.if-c-head.false,
      le-ltb _ links c.if-c-lt-LINKS.false,
      c.in-Some.ensures.0,
      lt-ltb _ 1024 c.in-Some.ensures.1,
      not-true (eqb c.in-Some.j c.args.k) (sym c.if-ne.ensures),
      c.outranks.ensures,
    )

pub returns-else-ne : goal.returns-else-ne
unfolding ends_at
returns-else-ne c =
    rw (
      ← c.queue.ensures,
      ← c.head.ensures.cell,
      ne_eqb _ _ c.if-c-head.false,
      le-ltb _ links c.if-c-lt-LINKS.false,
      c.in-Some.ensures.0,
      lt-ltb _ 1024 c.in-Some.ensures.1,
      not-false (eqb c.in-Some.j c.args.k) (sym c.if-ne.ensures),
    )
    c.if-ne.false

pub returns-in-None : goal.returns-in-None
unfolding ends_at
returns-in-None c =
    rw (
      ← c.queue.ensures,
      ← c.head.ensures.cell,
      ne_eqb _ _ c.if-c-head.false,
      le-ltb _ links c.if-c-lt-LINKS.false,
      le-ltb _ 1024 c.in-None.ensures,
    )
