-- `names_own` meets its contract, by cases on the tag.
use Rattle.machine.specs.All.{lt-ltb, le-ltb, eq-eqb, ne_eqb}
use Rattle.values_queues_laws.specs.Sides.{names_own}
use Rattle.values_queues.proofs.sides.names_own.Goals as goal

pub returns-then-at-ge-TABLES : goal.returns-then-at-ge-TABLES
unfolding names_own
returns-then-at-ge-TABLES c = rw (le-ltb _ 2890 c.if-at-ge-TABLES.true)

pub returns-then-tag-eq-PARAMETER_TAG : goal.returns-then-tag-eq-PARAMETER_TAG
unfolding names_own
returns-then-tag-eq-PARAMETER_TAG c =
    rw (lt-ltb _ 2890 c.if-at-ge-TABLES.false, ← c.number-tag.ensures, eq-eqb _ 2 c.if-tag-eq-PARAMETER_TAG.true)

pub returns-then-tag-lt-VALUE_TAG : goal.returns-then-tag-lt-VALUE_TAG
unfolding names_own
returns-then-tag-lt-VALUE_TAG c =
    rw (lt-ltb _ 2890 c.if-at-ge-TABLES.false, ← c.number-tag.ensures, ne_eqb _ 2 c.if-tag-eq-PARAMETER_TAG.false, lt-ltb _ 9 c.if-tag-lt-VALUE_TAG.true)

pub returns : goal.returns
unfolding names_own
returns c =
    rw (
      lt-ltb _ 2890 c.if-at-ge-TABLES.false,
      ← c.number-tag.ensures,
      ne_eqb _ 2 c.if-tag-eq-PARAMETER_TAG.false,
      le-ltb _ 9 c.if-tag-lt-VALUE_TAG.false,
      ← c.number-k.ensures,
      ← c.number.ensures,
    )
