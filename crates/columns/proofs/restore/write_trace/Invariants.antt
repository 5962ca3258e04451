-- `columns::restore::write_trace` meets its contract. The loop's invariant: what the records that are left give is what all records give,
-- and the clock is within its limit.
use Rattle.machine.specs.All.{◌-◌, ◌≤◌, ◌≡◌, length, max_clock}
use Rattle.columns_laws.specs.Walks.{restore_all}
use Rattle.columns.proofs.restore.write_trace.Given as goal

abbrev pub invariant-loop : goal.invariant-loop
invariant-loop l =
    (length l.out ≡ length l.initial.out)
    × (restore_all (l.count - l.counter) l.s l.t l.out ≡ restore_all l.count l.s l.initial.t l.initial.out) × (l.t.clock ≤ max_clock)
