-- One number more is stored, or all are.
use Rattle.std.proofs.Common.{ap}
use Rattle.runmodel.specs.declared.printing.Field.{Field}
use Rattle.runmodel.proofs.Counting.{behind-on, behind-done, stored_on, stored-done}
use Rattle.runmodel.proofs.printing.read_fields.Goals as goal

pub loop-i-preserved : goal.loop-i-preserved
loop-i-preserved c = record {
  behind = behind-on _ _ _ _ _ _ c.loop-i-test.true (ap (λ (f : Field). f.next) c.number_at-f.ensures) c.loop-i.invariant.behind;
  stored = stored_on _ _ _ _ _ _ _ _ c.loop-i-test.true c.number_at-f.ensures c.loop-i.invariant.stored;
}

pub returns-clause-value : goal.returns-clause-value
returns-clause-value c = behind-done _ _ _ _ _ c.loop-i-test.false c.loop-i.invariant.behind

pub returns-clause-numbers : goal.returns-clause-numbers
returns-clause-numbers c = stored-done _ _ _ _ _ _ c.loop-i-test.false c.loop-i.invariant.stored
