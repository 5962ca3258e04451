-- `join::rows::operands` meets its contract. The invariant: the operands that are left, written behind what stands, give the whole.
use Rattle.join.proofs.Forming.{forms-start, forms-step, forms-done}
use Rattle.join.proofs.rows.operands.Goals as goal

pub loop-i-init : goal.loop-i-init
loop-i-init c = forms-start _ _ _ _ _

pub loop-i-preserved : goal.loop-i-preserved
loop-i-preserved c = forms-step _ _ _ _ _ _ _ _ _ c.loop-i-test.true c.loop-i.invariant c.operand-next.ensures

pub returns : goal.returns
returns c = forms-done _ _ _ _ _ _ _ c.loop-i-test.false c.requires.2 c.loop-i.invariant
