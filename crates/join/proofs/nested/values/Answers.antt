-- `join::nested::values` meets its contract. The invariant: the values that are left, written behind what stands, give the whole.
use Rattle.machine.specs.All.{arith, refl, rules}
use Rattle.join_laws.proofs.RowSteps.{values-start, values-step, values-done}
use Rattle.join.proofs.nested.values.Goals as goal

pub loop-k-init : goal.loop-k-init
loop-k-init c = (refl, omega arith, values-start _ _ _ _)

pub loop-k-preserved : goal.loop-k-preserved
loop-k-preserved c = (
  (search rules),
  omega arith,
  values-step _ _ _ _ _ _ _ c.loop-k-test.true c.loop-k.invariant.2
      c.value-next.ensures,
)

pub shape_of-out : goal.shape_of-out
shape_of-out c = c.loop-k.invariant.0

pub returns : goal.returns
returns c = values-done _ _ _ _ _ _ c.loop-k-test.false c.loop-k.invariant.2
