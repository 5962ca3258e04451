-- `total` meets its contract. The invariant: the sum over the blocks passed.
use Rattle.machine.specs.All.{◌≡◌}
use Rattle.constants.specs.Numbers.{kind_number}
use Rattle.report_laws.specs.Counts.{total}
use Rattle.report.proofs.counts.Counts.total.Given as goal

abbrev pub invariant-loop-b : goal.invariant-loop-b
invariant-loop-b l = l.sum
    ≡ total l.self.tables.now l.self.tally.now (kind_number l.kinds.first) (kind_number l.kinds.second) (kind_number l.kinds.third) l.index l.base
    l.b
