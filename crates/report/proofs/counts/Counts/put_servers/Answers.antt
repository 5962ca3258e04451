-- `put_servers` meets its contract. The invariant: the servers passed are written.
use Rattle.machine.specs.All.{refl, sym, ap, ◌∙◌, rules}
use Rattle.report_laws.specs.{Writing.put_all}
use Rattle.report_laws.proofs.Writes.{rows_none, rows_next}
use Rattle.report.proofs.counts.Counts.put_servers.Goals as goal

pub loop-v-init : goal.loop-v-init
loop-v-init c = record {
  size = refl;
  rows = rows_none _ _;
}

pub loop-v-preserved : goal.loop-v-preserved
loop-v-preserved c = record {
  size = search rules;
  rows = c.put_server-next.ensures ∙ ap (put_all _) c.loop-v.invariant.rows ∙ sym (rows_next _ _ _);
}
