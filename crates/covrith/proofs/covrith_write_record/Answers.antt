-- `covrith_write_record` meets its contract: the answer of `write_one`, as numbers.
use Rattle.machine.specs.All.{arith}
use Rattle.covrith.proofs.Records.{told-written}
use Rattle.covrith.proofs.covrith_write_record.Goals as goal

pub returns-clause-value : goal.returns-clause-value
returns-clause-value c =
    (told-written c.write_one.new.rest c.write_one.result c.write_one.ensures.result_after (λ n h. omega (arith, c.write_one.ensures.count n h, c.write_one.auto.rest)) c.told.ensures).0

pub returns-clause-count_after : goal.returns-clause-count_after
returns-clause-count_after c =
    (told-written c.write_one.new.rest c.write_one.result c.write_one.ensures.result_after (λ n h. omega (arith, c.write_one.ensures.count n h, c.write_one.auto.rest)) c.told.ensures).1
