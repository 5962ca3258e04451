-- One number more is behind, or all are.
use Rattle.std.proofs.Common.{ap}
use Rattle.runmodel.specs.declared.printing.Field.{Field}
use Rattle.runmodel.proofs.Counting.{behind-on, behind-done}
use Rattle.runmodel.proofs.printing.skip.Goals as goal

pub loop-preserved : goal.loop-preserved
loop-preserved c =
    behind-on _ _ _ _ _ _ c.loop-test.true (ap (λ (f : Field). f.next) c.number_at-next.ensures) c.loop.invariant

pub returns : goal.returns
returns c = behind-done _ _ _ _ _ c.loop-test.false c.loop.invariant
