-- When the trace buffer stands for the records of a state of the machine.
use Rattle.std.specs.Prelude.{◌≡◌, ◌++◌}
use Rattle.machine.specs.All.{ℕ, List, length, drop, trace_bytes_lem, State, records_of}

-- `before` is what stood in the trace buffer at the start
pub record Writes (before trace : List ℕ) (s : State) : Type 0 where
  pub bytes : trace ≡ trace_bytes_lem (records_of s) ++ drop s.written before
  pub written : s.written ≡ length (trace_bytes_lem (records_of s))
