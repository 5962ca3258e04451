-- `columns::survey::scan_column` meets its contract. The loop's invariant: where the numbers that are left end is where all end.
use Rattle.machine.specs.All.{◌-◌, ◌≡◌, in_force, times, trace_field}
use Rattle.codec.specs.Answers.{cursor_at}
use Rattle.columns_laws.specs.Walks.{ends}
use Rattle.columns.proofs.survey.scan_column.Given as goal

abbrev pub invariant-loop : goal.invariant-loop
invariant-loop l =
    ends (times (l.count - l.counter) (trace_field in_force l.s l.lo l.hi) (cursor_at l.next 0 0))
    ≡ ends (times l.count (trace_field in_force l.s l.lo l.hi) (cursor_at l.at 0 0))
