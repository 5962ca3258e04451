-- One server or queue more is behind, or all are.
use Rattle.runmodel.proofs.Counting.{things-on, things-done}
use Rattle.runmodel.proofs.printing.skip_all.Goals as goal

pub loop-preserved : goal.loop-preserved
loop-preserved c = things-on _ _ _ _ _ _ _ c.loop-test.true c.skip-next.ensures c.loop.invariant

pub returns : goal.returns
returns c = things-done _ _ _ _ _ _ c.loop-test.false c.loop.invariant
