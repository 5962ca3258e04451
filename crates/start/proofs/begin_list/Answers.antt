-- `begin_list` meets its contract: by cases on the times left.
use Rattle.machine.specs.All.{refl, eq-eqb, ne_eqb}
use Rattle.state.specs.All.{rows_of}
use Rattle.start.specs.{spent_at, priority_at, begin_list}
use Rattle.start.proofs.begin_list.Goals as goal

pub returns-then-times_left-eq0 : goal.returns-then-times_left-eq0
unfolding begin_list spent_at priority_at rows_of
returns-then-times_left-eq0 c =
    rw (← c.number-list.ensures, ← c.times_left.ensures, eq-eqb _ 0 c.if-times_left-eq0.true)

pub returns : goal.returns
unfolding begin_list spent_at priority_at rows_of
returns c =
    rw (
      c.one_made.ensures,
      ← c.number-list.ensures,
      ← c.number-priority.ensures,
      ← c.times_left.ensures,
      ne_eqb _ 0 c.if-times_left-eq0.false,
      ← c.next_sample-sample.ensures,
    ) (c.arrives-made.ensures _ refl refl refl)
