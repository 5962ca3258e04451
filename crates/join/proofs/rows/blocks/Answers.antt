-- `join::rows::blocks` meets its contract. The invariant: the blocks that are left, written behind what stands, give the whole.
use Rattle.machine.specs.All.{arith, refl, rules}
use Rattle.join_laws.proofs.RowSteps.{blocks_start, blocks_step, blocks-done}
use Rattle.join.proofs.rows.blocks.Goals as goal

pub loop-b-init : goal.loop-b-init
loop-b-init c = (refl, omega arith, blocks_start _ _ _ _)

pub loop-b-preserved : goal.loop-b-preserved
loop-b-preserved c = (
  (search rules),
  omega arith,
  blocks_step _ _ _ _ _ _ _ c.loop-b-test.true c.loop-b.invariant.2
      c.block-next.ensures,
)

pub shape_of-out : goal.shape_of-out
shape_of-out c = c.loop-b.invariant.0

pub returns : goal.returns
returns c = blocks-done _ _ _ _ _ _ c.loop-b-test.false c.loop-b.invariant.2
