-- `ahead_of` meets its contract, by cases on the first of REL and the last of the list.
use Rattle.std.specs.Prelude.{◌-◌, ◌≡◌}
use Rattle.machine.specs.All.{lt-ltb, le-ltb}
use Rattle.rows_laws.specs.All.{links, load, tail}
use Rattle.servers_laws.specs.Waking.{ahead_of}
use Rattle.servers.proofs.waking.ahead_of.Goals as goal

pub returns-in_default : goal.returns-in_default
unfolding ahead_of
returns-in_default c = rw (le-ltb _ 1024 c.in_default.ensures)

pub returns-in-Some-of : goal.returns-in-Some-of
unfolding ahead_of
returns-in-Some-of c =
    let last : load c.args.work.now (tail c.args.v) - links ≡ c.in-Some-of.k =
    rw (← c.queue.ensures, ← c.tail.ensures.cell, ← c.get.ensures, ← c.saturating_sub.ensures) c.in-Some-of.ensures.0 in
    rw (c.in-Some.ensures.0, lt-ltb _ 1024 c.in-Some.ensures.1, last, lt-ltb _ 1024 c.in-Some-of.ensures.1)
    c.outranks.ensures

pub returns-in-None : goal.returns-in-None
unfolding ahead_of
returns-in-None c =
    rw (
      c.in-Some.ensures.0,
      lt-ltb _ 1024 c.in-Some.ensures.1,
      ← c.queue.ensures,
      ← c.tail.ensures.cell,
      ← c.get.ensures,
      ← c.saturating_sub.ensures,
      le-ltb _ 1024 c.in-None.ensures,
    )
