-- `comes_with` meets its contract, question by question.
use Rattle.machine.specs.All.{lt-ltb, eq-eqb, ne_eqb}
use Rattle.turn_laws.specs.Staying.{comes_with}
use Rattle.turn.proofs.staying.comes_with.Goals as goal

pub returns-then-read-block : goal.returns-then-read-block
unfolding comes_with
returns-then-read-block c = λ row.
    rw (lt-ltb _ 1024 row, ← c.read.ensures, ne_eqb _ _ c.if-read-block.true)

pub returns-then-read-standing : goal.returns-then-read-standing
unfolding comes_with
returns-then-read-standing c = λ row.
    rw (lt-ltb _ 1024 row, ← c.read.ensures, eq-eqb _ _ c.if-read-block.false, ← c.read-2.ensures, ne_eqb _ _ c.if-read-standing.true)

pub returns : goal.returns
unfolding comes_with
returns c = λ row.
    rw (
      lt-ltb _ 1024 row,
      ← c.read.ensures,
      eq-eqb _ _ c.if-read-block.false,
      ← c.read-2.ensures,
      eq-eqb _ _ c.if-read-standing.false,
      ← c.read-3.ensures,
    )
