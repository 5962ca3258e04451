-- `covrith_columns` meets its contract: the answer of `to_columns`, as numbers.
use Rattle.machine.specs.All.{arith}
use Rattle.covrith.proofs.Records.{told-written}
use Rattle.covrith.proofs.covrith_columns.Goals as goal

pub returns-clause-value : goal.returns-clause-value
returns-clause-value c =
    (told-written c.to_columns.new.out c.to_columns.result c.to_columns.ensures.result_after (λ n h. omega (arith, c.to_columns.ensures.count n h, c.to_columns.auto.out)) c.told.ensures).0

pub returns-clause-written_after : goal.returns-clause-written_after
returns-clause-written_after c =
    (told-written c.to_columns.new.out c.to_columns.result c.to_columns.ensures.result_after (λ n h. omega (arith, c.to_columns.ensures.count n h, c.to_columns.auto.out)) c.told.ensures).1
