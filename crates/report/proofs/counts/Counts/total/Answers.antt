-- `total` meets its contract. The invariant: the sum over the blocks passed.
use Rattle.machine.specs.All.{◌+◌, min, sym, ap, ap₂, ◌∙◌, arith}
use Rattle.report_laws.specs.Counts.{total}
use Rattle.report_laws.proofs.Writes.{total-none, total-next}
use Rattle.report.proofs.counts.Counts.total.Goals as goal

pub loop-b-init : goal.loop-b-init
loop-b-init c = total-none _ _ _ _ _ _ _

pub loop-b-preserved : goal.loop-b-preserved
loop-b-preserved c =
    c.saturating_add-sum.ensures ∙ ap₂ (λ x y. min (x + y) 18446744073709551615) c.loop-b.invariant c.share.ensures
    ∙ sym (total-next _ _ _ _ _ _ _ _)

pub returns : goal.returns
returns c =
    c.loop-b.invariant ∙ ap (total _ _ _ _ _ _ _) (omega arith)
