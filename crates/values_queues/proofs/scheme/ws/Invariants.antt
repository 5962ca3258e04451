-- `ws` meets its contract. The invariant: the rest of the walk from here is the whole walk, and the answers for all are those of the
-- block that was seen last.
use Rattle.machine.specs.All.{◌+◌, ◌-◌, ◌≤◌, ◌≡◌}
use Rattle.rows_laws.specs.All.{head, wsl, wake_all}
use Rattle.values_queues_laws.specs.{Scheme.leaves, Sides.ForAll, Sides.answer_number}
use Rattle.values_queues.proofs.scheme.ws.Given as goal

abbrev pub invariant-loop : goal.invariant-loop
invariant-loop l =
    record {
      rest : wake_all (leaves l.tables l.blocks l.values l.tally l.view.clock) (1024 - l.counter) l.work 448 l.cell
          ≡ wake_all (leaves l.tables l.blocks l.values l.tally l.view.clock) 1024 l.initial.work 448 (head wsl);
      low : l.seen ≤ 34359738360;
      left : ForAll l.tables l.values l.tally l.view.clock (l.seen + 1) (answer_number l.left);
      right : ForAll l.tables l.values l.tally l.view.clock (l.seen + 4) (answer_number l.right);
    }
