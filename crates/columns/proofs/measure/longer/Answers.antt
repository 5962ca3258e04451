-- `columns::measure::longer` meets its contract: four lengths, each at most nine.
use Rattle.machine.specs.All.{◌-◌, arith}
use Rattle.codec.proofs.Numbers.{number_bytes-longest}
use Rattle.columns_laws.specs.Walks.{longer}
use Rattle.columns.proofs.measure.longer.Goals as goal

pub overflow_add-result : goal.overflow_add-result
overflow_add-result c =
    omega (arith, c.requires, c.number_len.ensures, number_bytes-longest (c.args.r.clock - c.args.t.clock))

pub overflow_add-result-2 : goal.overflow_add-result-2
overflow_add-result-2 c =
    omega (arith, c.requires, c.number_len-2.ensures, number_bytes-longest c.args.r.transaction)

pub overflow_add-result-3 : goal.overflow_add-result-3
overflow_add-result-3 c =
    omega (arith, c.requires, c.number_len-3.ensures, number_bytes-longest c.args.r.block)

pub overflow_add-result-4 : goal.overflow_add-result-4
overflow_add-result-4 c =
    omega (arith, c.requires, c.number_len-4.ensures, number_bytes-longest c.args.r.outcome)

pub returns : goal.returns
returns c =
    unfold longer in
    rw (
      c.number_len.ensures,
      c.number_len-2.ensures,
      c.number_len-3.ensures,
      c.number_len-4.ensures,
    )
