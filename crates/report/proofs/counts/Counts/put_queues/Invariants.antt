-- `put_queues` meets its contract. The invariant: the queues passed are written.
use Rattle.machine.specs.All.{◌≡◌, length}
use Rattle.report_laws.specs.{Writing.written, Writing.put_all, Counts.queue_row, Counts.rows_to}
use Rattle.report.proofs.counts.Counts.put_queues.Given as goal

abbrev pub invariant-loop-q : goal.invariant-loop-q
invariant-loop-q l =
    record {
      size : length l.report ≡ length l.initial.report;
      rows : written l.next l.report
          ≡ put_all (rows_to l.q (queue_row l.self.tables.now l.self.tally.now l.self.clock l.self.blocks)) (written l.at l.initial.report);
    }
