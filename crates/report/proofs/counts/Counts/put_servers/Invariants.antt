-- `put_servers` meets its contract. The invariant: the servers passed are written.
use Rattle.machine.specs.All.{◌≡◌, length}
use Rattle.report_laws.specs.{Writing.written, Writing.put_all, Counts.server_row, Counts.rows_to}
use Rattle.report.proofs.counts.Counts.put_servers.Given as goal

abbrev pub invariant-loop-v : goal.invariant-loop-v
invariant-loop-v l =
    record {
      size : length l.report ≡ length l.initial.report;
      rows : written l.next l.report
          ≡ put_all (rows_to l.v (server_row l.self.tables.now l.self.tally.now l.self.clock l.self.blocks)) (written l.at l.initial.report);
    }
