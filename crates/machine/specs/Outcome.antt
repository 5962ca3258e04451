-- Questions, "A run returns refusal (0 for none), end, clock, turns, made, ended, bytes of trace and of report."
use Rattle.machine.specs.Basics.{ℕ, List, [], map, reverse}
use Rattle.machine.specs.{Rules.Rules, Block.BlockModel, Trace.Record, Trace.trace_bytes_lem, State.State, Report.report_bytes_lem, Run.run}
use Rattle.machine.specs.Validate.{Validation, accept, reject, validate}

pub record Outcome : Type 0 where
  pub refusal : ℕ
  pub end : ℕ
  pub clock : ℕ
  pub turns : ℕ
  pub made : ℕ
  pub ended : ℕ
  pub trace : List ℕ
  pub report : List ℕ

-- a run's records in the order of writing
unfoldable pub records_of : State → List Record
records_of s = map (λ r. r.entry) (reverse s.records)

unfoldable pub accepted_run : BlockModel → State → Outcome
accepted_run m s =
    record {
      refusal = 0;
      end = s.end;
      clock = s.view.clock;
      turns = s.turns;
      made = s.made;
      ended = s.ended;
      trace = trace_bytes_lem (records_of s);
      report = report_bytes_lem m s;
    }

-- "Any other input .. gets the refusal number listed for it, all other results zero"
unfoldable pub refused_run : ℕ → Outcome
refused_run n = record { refusal = n; end = 0; clock = 0; turns = 0; made = 0; ended = 0; trace = []; report = [] }

unfoldable pub outcome_of : (budget room : ℕ) → Validation → Outcome
outcome_of budget room (accept m tape) = accepted_run m (run m tape budget room)
outcome_of budget room (reject n) = refused_run n

-- Under some rules, the outcome for the bytes of a model and a tape, a budget of turns and the lengths of the work, trace and report buffers.
-- The numbers of bytes of trace and report are the lengths of the two lists.
unfoldable pub outcome : Rules → (model tape : List ℕ) (budget work room report : ℕ) → Outcome
outcome rules model tape budget work room report = outcome_of budget room (validate rules model tape work report)
