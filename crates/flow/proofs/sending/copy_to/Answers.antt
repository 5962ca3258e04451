-- `copy_to` meets its contract: the row, then REL.
use Rattle.machine.specs.All.{sym, ap, ◌∙◌}
use Rattle.rows_laws.specs.All.{copy_at}
use Rattle.flow_laws.specs.Sending.{copy_to}
use Rattle.flow.proofs.sending.copy_to.Goals as goal

pub returns : goal.returns
unfolding copy_to
returns c = λ e.
    let copied = c.copy.ensures ∙ ap (λ m. copy_at c.args.work.now m c.args.k c.saturating_add-number.result c.args.target) (sym e) in
    rw (← c.saturating_add-number.ensures, ← copied) c.to_ready.ensures
