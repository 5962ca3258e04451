-- `covrith_read_record` meets its contract: the answer of `read_record`, case by case.
use Rattle.machine.specs.All.{◌∙◌, ap, refl}
use Rattle.std.specs.Prelude.{Ok}
use Rattle.trace.proofs.Reader.{past_end}
use Rattle.covrith.proofs.Records.{read-taken, read-refused, read-no_more}
use Rattle.covrith.proofs.covrith_read_record.Goals as goal

pub returns-then-trace-position-clause-value : goal.returns-then-trace-position-clause-value
returns-then-trace-position-clause-value c = (read-no_more (past_end _ _ c.if-trace-position.true) c.args.numbers.now refl).0

pub returns-then-trace-position-clause-numbers_after : goal.returns-then-trace-position-clause-numbers_after
returns-then-trace-position-clause-numbers_after c = (read-no_more (past_end _ _ c.if-trace-position.true) c.args.numbers.now refl).1

pub returns-in-Ok-Some-clause-value : goal.returns-in-Ok-Some-clause-value
returns-in-Ok-Some-clause-value c = (read-taken c.read_record.ensures c.args.numbers.now _ _ (c.in-Ok-Some.is ∙ ap Ok c.in-Ok-Some.field-0-is)).0

pub returns-in-Ok-Some-clause-numbers_after : goal.returns-in-Ok-Some-clause-numbers_after
returns-in-Ok-Some-clause-numbers_after c = (read-taken c.read_record.ensures c.args.numbers.now _ _ (c.in-Ok-Some.is ∙ ap Ok c.in-Ok-Some.field-0-is)).1

pub returns-in-Ok-None-clause-value : goal.returns-in-Ok-None-clause-value
returns-in-Ok-None-clause-value c = (read-no_more c.read_record.ensures c.args.numbers.now (c.in-Ok-None.is ∙ ap Ok c.in-Ok-None.field-0-is)).0

pub returns-in-Ok-None-clause-numbers_after : goal.returns-in-Ok-None-clause-numbers_after
returns-in-Ok-None-clause-numbers_after c = (read-no_more c.read_record.ensures c.args.numbers.now (c.in-Ok-None.is ∙ ap Ok c.in-Ok-None.field-0-is)).1

pub returns-in-Err-clause-value : goal.returns-in-Err-clause-value
returns-in-Err-clause-value c = c.number.ensures ∙ (read-refused c.read_record.ensures c.args.numbers.now _ c.in-Err.is).0

pub returns-in-Err-clause-numbers_after : goal.returns-in-Err-clause-numbers_after
returns-in-Err-clause-numbers_after c = (read-refused c.read_record.ensures c.args.numbers.now _ c.in-Err.is).1
