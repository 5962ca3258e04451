-- `put_queues` meets its contract. The invariant: the queues passed are written.
use Rattle.machine.specs.All.{refl, sym, ap, ◌∙◌, rules}
use Rattle.report_laws.specs.{Writing.put_all}
use Rattle.report_laws.proofs.Writes.{rows_none, rows_next}
use Rattle.report.proofs.counts.Counts.put_queues.Goals as goal

pub loop-q-init : goal.loop-q-init
loop-q-init c = record {
  size = refl;
  rows = rows_none _ _;
}

pub loop-q-preserved : goal.loop-q-preserved
loop-q-preserved c = record {
  size = search rules;
  rows = c.put_queue-next.ensures ∙ ap (put_all _) c.loop-q.invariant.rows ∙ sym (rows_next _ _ _);
}
