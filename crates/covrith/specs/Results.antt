-- The eight numbers of a run, in the paper's order: "refusal (0 for none), end, clock, turns, made, ended, bytes of trace and of report".
use Rattle.machine.specs.All.{ℕ, List, get_or}
use Rattle.engine_laws.specs.declared.outcome.Outcome.{Outcome}

abbrev pub results : List ℕ → Outcome
results l = record {
  refusal = get_or l 0 0;
  end = get_or l 1 0;
  clock = get_or l 2 0;
  turns = get_or l 3 0;
  made = get_or l 4 0;
  ended = get_or l 5 0;
  trace_bytes = get_or l 6 0;
  report_bytes = get_or l 7 0;
}
