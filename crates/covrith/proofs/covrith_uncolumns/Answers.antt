-- `covrith_uncolumns` meets its contract: the answer of `from_columns`, as numbers.
use Rattle.machine.specs.All.{arith}
use Rattle.covrith.proofs.Records.{told-written}
use Rattle.covrith.proofs.covrith_uncolumns.Goals as goal

pub returns-clause-value : goal.returns-clause-value
returns-clause-value c =
    (told-written c.from_columns.new.out c.from_columns.result c.from_columns.ensures.result_after (λ n h. omega (arith, c.from_columns.ensures.count n h, c.from_columns.auto.out)) c.told.ensures).0

pub returns-clause-size_after : goal.returns-clause-size_after
returns-clause-size_after c =
    (told-written c.from_columns.new.out c.from_columns.result c.from_columns.ensures.result_after (λ n h. omega (arith, c.from_columns.ensures.count n h, c.from_columns.auto.out)) c.told.ensures).1
