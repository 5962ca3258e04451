-- The row machine: a whole run of a decoded model, from the start to the results.
use Rattle.std.specs.Prelude.{◌≡◌}
use Rattle.machine.specs.All.{ℕ, List, length, replicate}
use Rattle.constants.specs.declared.model.Model.{Model}
use Rattle.layout.specs.All.{tally_size}
use Rattle.state.specs.declared.scalars.Scalars.{Scalars}
use Rattle.turn_laws.specs.Turn.{Traced, traced}
use Rattle.start.specs.Start.{start_rows}
use Rattle.report_laws.specs.{Writing.written, Writing.put_all, Numbers.row_numbers}
use Rattle.engine_laws.specs.{declared.outcome.Outcome.Outcome as Results, Turns.turns_rows}

-- ---- Results

-- of a refused run
abbrev pub refused_with : ℕ → Results
refused_with n =
    record {
      refusal = n;
      end = 0;
      clock = 0;
      turns = 0;
      made = 0;
      ended = 0;
      trace_bytes = 0;
      report_bytes = 0;
    }

-- of an accepted run, from the last scalars and the bytes of the report
abbrev pub ended_with : Scalars → ℕ → Results
ended_with x n =
    record {
      refusal = 0;
      end = x.end;
      clock = x.clock;
      turns = x.turns;
      made = x.made;
      ended = x.ended;
      trace_bytes = x.used;
      report_bytes = n;
    }

-- ---- The run

module _ (model : Model) (tables lists tape : List ℕ) (budget : ℕ) (work trace : List ℕ) where
  -- what the last turn leaves; the tally is all 0 before the start
  unfoldable pub last_rows : Traced
  last_rows =
      turns_rows model tables tape budget (length trace) (traced (start_rows model tables tape lists work (replicate tally_size 0)) trace)

-- what a run leaves, given what its last turn leaves
pub record Finishes (model : Model) (tables : List ℕ) (last : Traced) (report : List ℕ) (r : Results)
    (trace' report' : List ℕ) : Type 0 where
  pub results : r ≡ ended_with last.rows.scalars r.report_bytes
  pub trace-is : trace' ≡ last.trace
  pub reported : written r.report_bytes report'
      ≡ put_all (row_numbers model tables last.rows.tally last.rows.work last.rows.scalars) (written 0 report)
