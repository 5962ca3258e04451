-- `columns::survey::scan_clocks` meets its contract. The loop's invariant: what the differences that are left give is what all give, and
-- the sums are within their limits.
use Rattle.machine.specs.All.{◌*◌, ◌-◌, ◌≤◌, ◌≡◌, max_clock}
use Rattle.codec.specs.Answers.{cursor_at}
use Rattle.columns_laws.specs.{Columns.clocks_from, Walks.sized}
use Rattle.columns.proofs.survey.scan_clocks.Given as goal

abbrev pub invariant-loop : goal.invariant-loop
invariant-loop l =
    (l.clock ≤ max_clock) × (l.size ≤ 9 * l.counter)
    × (sized l.size (clocks_from l.s (l.count - l.counter) l.clock (cursor_at l.next 0 0)) ≡ sized 0 (clocks_from l.s l.count 0 (cursor_at l.at 0 0)))
