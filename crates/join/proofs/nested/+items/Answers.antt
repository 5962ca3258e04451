-- The proof of `join::nested::items`, which calls itself: how many brackets may open falls, or how many terms are left.
use Rattle.machine.specs.All.{arith}
use Rattle.join_laws.proofs.RowSteps.{items-none, items-past, items-plain, items-flat, items_deep}
use Rattle.join.proofs.nested.+items.Goals as goal

pub returns-then-left-eq0 : goal.returns-then-left-eq0
returns-then-left-eq0 t c = items-none _ _ _ _ _ _ _ c.if-left-eq0.true

pub returns-then-tables-from : goal.returns-then-tables-from
returns-then-tables-from t c = items-past _ _ _ _ _ _ _ c.if-left-eq0.false c.if-tables-from.true

pub item-done-requires : goal.item-done-requires
item-done-requires t c =
    (omega (arith, c.if-tables-from.false), c.requires)

pub overflow_sub-left : goal.overflow_sub-left
overflow_sub-left t c = omega (arith, c.if-left-eq0.false)

pub items-requires : goal.items-requires
items-requires t c = (
  omega (
    arith,
    c.if-left-eq0.false,
  ),
  c.requires,
)

pub returns-then-tag-le-VALUE_TAG : goal.returns-then-tag-le-VALUE_TAG
returns-then-tag-le-VALUE_TAG t c =
    items-plain _ _ _ _ _ _ _
    c.if-left-eq0.false
    c.if-tables-from.false _
    c.item-done.ensures _
    c.number-tag.ensures
    c.if-tag-le-VALUE_TAG.true _ _ c.items.ensures

pub overflow_sub-left-then-depth-eq0 : goal.overflow_sub-left-then-depth-eq0
overflow_sub-left-then-depth-eq0 t c = omega (arith, c.if-left-eq0.false)

pub items-requires-then-depth-eq0 : goal.items-requires-then-depth-eq0
items-requires-then-depth-eq0 t c = (
  omega (
    arith,
    c.if-left-eq0.false,
  ),
  c.requires,
)

pub returns-then-depth-eq0 : goal.returns-then-depth-eq0
returns-then-depth-eq0 t c =
    items-flat _ _ _ _ _ _ _
    c.if-left-eq0.false
    c.if-tables-from.false _
    c.item-done.ensures _
    c.number-tag.ensures
    c.if-tag-le-VALUE_TAG.false c.if-depth-eq0.true _ _
    c.items-then-depth-eq0.ensures

pub overflow_sub-depth : goal.overflow_sub-depth
overflow_sub-depth t c = omega (arith, c.if-depth-eq0.false)

pub items-inner-requires : goal.items-inner-requires
items-inner-requires t c = (
  omega (
    arith,
    c.if-depth-eq0.false,
  ),
  c.signs_in.ensures.most,
)

pub overflow_sub-left-2 : goal.overflow_sub-left-2
overflow_sub-left-2 t c =
    omega (
      arith,
      c.if-left-eq0.false,
    )

pub items-requires-2 : goal.items-requires-2
items-requires-2 t c = (
  omega (
    arith,
    c.if-left-eq0.false,
  ),
  c.requires,
)

pub returns : goal.returns
returns t c =
    items_deep _ _ _ _ _ _ _
    c.if-left-eq0.false c.if-tables-from.false _ c.item-done.ensures _ c.number-tag.ensures c.if-tag-le-VALUE_TAG.false c.if-depth-eq0.false _ _ _
    c.number-n.ensures c.opened.ensures c.signs_in.ensures.value _ _ c.items-inner.ensures _ _ c.items-2.ensures
