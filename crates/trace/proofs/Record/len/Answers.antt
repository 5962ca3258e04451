-- `Record::len` meets its contract: four lengths, each at most nine.
use Rattle.machine.specs.All.{arith}
use Rattle.codec.proofs.Numbers.{number_bytes-longest}
use Rattle.trace.proofs.Writer.{record_bytes-length}
use Rattle.trace.specs.{entry_of}
use Rattle.trace.proofs.Record.len.Goals as goal

pub overflow_add-result : goal.overflow_add-result
overflow_add-result c =
    omega (arith, number_bytes-longest c.args.self.clock, number_bytes-longest c.args.self.transaction)

pub overflow_add-result-2 : goal.overflow_add-result-2
overflow_add-result-2 c =
    omega (
      arith,
      number_bytes-longest c.args.self.clock,
      number_bytes-longest c.args.self.transaction,
      number_bytes-longest c.args.self.block,
    )

pub overflow_add-result-3 : goal.overflow_add-result-3
overflow_add-result-3 c =
    omega (
      arith,
      number_bytes-longest c.args.self.clock,
      number_bytes-longest c.args.self.transaction,
      number_bytes-longest c.args.self.block,
      number_bytes-longest c.args.self.outcome,
    )

pub returns : goal.returns
returns c = omega (arith, record_bytes-length (entry_of c.args.self))
