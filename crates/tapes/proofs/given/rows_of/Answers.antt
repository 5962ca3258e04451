-- `tapes::rows_of` meets its contract.
use Rattle.machine.specs.All.{arith, length-set}
use Rattle.tapes_laws.proofs.Lists.{filling-start, filling-stops, filling-goes, filled}
use Rattle.tapes.proofs.given.rows_of.Goals as goal

pub loop-k-init : goal.loop-k-init
loop-k-init c = (omega arith, filling-start _ _ _)

pub returns-in_err-rows : goal.returns-in_err-rows
returns-in_err-rows c =
    rw c.from_residual.ensures
    (filling-stops _ _ _ _ c.loop-k.invariant.1 _ c.loop-k-test.true c.row_of.ensures c.in_err-rows.was)

pub loop-k-preserved : goal.loop-k-preserved
loop-k-preserved c = (
  omega (arith, c.loop-k.invariant.0, length-set c.loop-k.rows c.loop-k.k c.in_ok-rows.field-0),
  filling-goes _ _ _ _ c.loop-k.invariant.1 _ _ c.loop-k-test.true (omega (arith, c.loop-k.invariant.0)) c.row_of.ensures c.in_ok-rows.was,
)

pub returns : goal.returns
returns c = filled _ _ _ _ c.loop-k-test.false c.loop-k.auto.k-end c.loop-k.invariant.1
