-- `join::whole::may_join` meets its contract: each early return is a test of `may_join` that fails, and at the end all have passed.
use Rattle.machine.specs.All.{eq-eqb, ne_eqb, le-leb, lt-leb}
use Rattle.join_laws.specs.Whole.{may_join}
use Rattle.join_laws.proofs.RowSteps.{and_no}
use Rattle.join.proofs.whole.may_join.Goals as goal

pub returns-then-edition1-edition2 : goal.returns-then-edition1-edition2
unfolding may_join
returns-then-edition1-edition2 c =
    rw (← c.edition-edition1.ensures, ← c.edition-edition2.ensures, ne_eqb _ _ c.if-edition1-edition2.true)

pub returns-then-a-b-gt-MAX_FACILITIES : goal.returns-then-a-b-gt-MAX_FACILITIES
unfolding may_join
returns-then-a-b-gt-MAX_FACILITIES c = rw (lt-leb _ _ c.if-a-b-gt-MAX_FACILITIES.true, and_no)

pub returns-then-a-b-gt-MAX_STORAGES : goal.returns-then-a-b-gt-MAX_STORAGES
unfolding may_join
returns-then-a-b-gt-MAX_STORAGES c = rw (lt-leb _ _ c.if-a-b-gt-MAX_STORAGES.true, and_no)

pub returns-then-a-b-gt-MAX_QUEUES : goal.returns-then-a-b-gt-MAX_QUEUES
unfolding may_join
returns-then-a-b-gt-MAX_QUEUES c = rw (lt-leb _ _ c.if-a-b-gt-MAX_QUEUES.true, and_no)

pub returns-then-a-b-gt-MAX_VALUES : goal.returns-then-a-b-gt-MAX_VALUES
unfolding may_join
returns-then-a-b-gt-MAX_VALUES c = rw (lt-leb _ _ c.if-a-b-gt-MAX_VALUES.true, and_no)

pub returns-then-a-b-gt-MAX_LISTS : goal.returns-then-a-b-gt-MAX_LISTS
unfolding may_join
returns-then-a-b-gt-MAX_LISTS c = rw (lt-leb _ _ c.if-a-b-gt-MAX_LISTS.true, and_no)

pub returns-then-a-b-gt-MAX_COUNTER : goal.returns-then-a-b-gt-MAX_COUNTER
unfolding may_join
returns-then-a-b-gt-MAX_COUNTER c = rw (lt-leb _ _ c.if-a-b-gt-MAX_COUNTER.true, and_no)

pub returns-then-a-b-gt-MAX_BLOCKS : goal.returns-then-a-b-gt-MAX_BLOCKS
unfolding may_join
returns-then-a-b-gt-MAX_BLOCKS c = rw (lt-leb _ _ c.if-a-b-gt-MAX_BLOCKS.true, and_no)

pub returns : goal.returns
unfolding may_join
returns c =
    rw (
      ← c.edition-edition1.ensures,
      ← c.edition-edition2.ensures,
      eq-eqb _ _ c.if-edition1-edition2.false,
      le-leb _ _ c.if-a-b-gt-MAX_FACILITIES.false,
      le-leb _ _ c.if-a-b-gt-MAX_STORAGES.false,
      le-leb _ _ c.if-a-b-gt-MAX_QUEUES.false,
      le-leb _ _ c.if-a-b-gt-MAX_VALUES.false,
      le-leb _ _ c.if-a-b-gt-MAX_LISTS.false,
      le-leb _ _ c.if-a-b-gt-MAX_COUNTER.false,
      le-leb _ _ c.if-a-b-gt-MAX_BLOCKS.false,
    )
