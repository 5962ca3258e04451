-- `nobody_left` meets its contract: list by list.
use Rattle.machine.specs.All.{sym, lt-ltb, le-ltb, lt-leb, le-leb}
use Rattle.rows_laws.specs.All.{rel, fel, first}
use Rattle.engine_laws.specs.Ends.{nobody_rows}
use Rattle.engine.proofs.ends.nobody_left.Goals as goal

pub returns-in-Some : goal.returns-in-Some
unfolding nobody_rows
returns-in-Some c =
    sym (rw (lt-ltb c.args.moving 1024 (rw c.in-Some.ensures.0 c.in-Some.ensures.1)))

pub returns-in-Some-first : goal.returns-in-Some-first
unfolding nobody_rows
returns-in-Some-first c =
    sym (rw (le-ltb _ 1024 c.in_default.ensures, lt-ltb (first c.args.work.now rel) 1024 (rw c.in-Some-first.ensures.0 c.in-Some-first.ensures.1)))

pub returns-in-Some-first-2 : goal.returns-in-Some-first-2
unfolding nobody_rows
returns-in-Some-first-2 c =
    sym (rw (
      le-ltb _ 1024 c.in_default.ensures,
      le-ltb _ 1024 c.in_default-first.ensures,
      lt-leb 1024 (first c.args.work.now fel) (rw c.in-Some-first-2.ensures.0 c.in-Some-first-2.ensures.1),
    ))

pub returns-in-None : goal.returns-in-None
unfolding nobody_rows
returns-in-None c =
    sym (rw (le-ltb _ 1024 c.in_default.ensures, le-ltb _ 1024 c.in_default-first.ensures, le-leb 1024 _ c.in-None.ensures))
