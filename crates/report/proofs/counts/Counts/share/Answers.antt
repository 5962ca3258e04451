-- `share` meets its contract, by cases on whether the block names the index.
use Rattle.report_laws.specs.Counts.{share}
use Rattle.report.proofs.counts.Counts.share.Goals as goal

pub returns-then-names : goal.returns-then-names
unfolding share
returns-then-names c =
    rw (← c.names.ensures, c.if-names.true) c.count.ensures

pub returns-else-names : goal.returns-else-names
unfolding share
returns-else-names c =
    rw (← c.names.ensures, c.if-names.false)
