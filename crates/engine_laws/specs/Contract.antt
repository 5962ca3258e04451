-- What `run` promises, for all bytes, budgets and buffer lengths: the machine's outcome, its trace and report in the buffers,
-- nothing touched by a refused run, the rules, demand 3 of the whole run, a trace that reads back, the living by rising number, and what
-- a shorter run has in common with a longer one.
--
-- Left free by the papers: the work buffer after an accepted run, of which nothing is said (a lent slice keeps its length).
use Rattle.std.specs.Prelude.{◌≤◌, ◌≡◌, ◌++◌}
use Rattle.machine.specs.All.{ℕ, List, length, take, drop, true, Rules, in_force, max_report_number, Record, trace_bytes_lem, BlockModel, accept, validate, run, report_numbers, Outcome, records_of, outcome, Each, Proved, Keeping, InModel, LivingListed}
use Rattle.machine.specs.Prefix.{Prefix, StatesAreRuns}
use Rattle.trace.specs.Whole.{Reads}
use Rattle.engine_laws.specs.declared.outcome.Outcome.{Outcome as Results}

-- "A run returns refusal (0 for none), end, clock, turns, made, ended, bytes of trace and of report."
pub record Gives (o : Outcome) (r : Results) : Type 0 where
  pub refusal : r.refusal ≡ o.refusal
  pub end : r.end ≡ o.end
  pub clock : r.clock ≡ o.clock
  pub turns : r.turns ≡ o.turns
  pub made : r.made ≡ o.made
  pub ended : r.ended ≡ o.ended
  pub trace-bytes : r.trace_bytes ≡ length o.trace
  pub report-bytes : r.report_bytes ≡ length o.report

-- these bytes, and behind them what stood in the buffer before
abbrev pub Begins : (bytes before after : List ℕ) → Type 0
Begins bytes before after = after ≡ bytes ++ drop (length bytes) before

-- the reader takes exactly these records and then answers "no more"; whatever records it takes are, written again, the same bytes
pub record ReadsBack (m : BlockModel) (bytes : List ℕ) (records : List Record) : Type 0 where
  -- clock at most 32,000,000,000, transaction at most 100,000,000, a block of the model
  pub in-model : Each (InModel m) records
  pub reads : Reads bytes 0 records
  pub written-again : (l : List Record) → Reads bytes 0 l → trace_bytes_lem l ≡ bytes

-- document 01 with all requests of document 02
abbrev pub rules_in_force : Rules
rules_in_force = record { max_clock = 32000000000; max_time = 10000000000; max_number = 34359738367; holders = true; kinds = 20; editions = 2 }

-- of an accepted run, with what its trace buffer begins with
pub record Accepted (m : BlockModel) (times : List (List ℕ)) (budget room : ℕ) (bytes : List ℕ) : Type 0 where
  -- the rules by which the machine runs it
  pub rules : m.rules ≡ rules_in_force
  -- demand 3, of the start, of what each turn left and of the last state; the bounds on turns and the stated end
  pub demand3 : Proved m times budget room
  -- no number of the report is cut: each fits nine groups
  pub report-small : Each (λ (n : ℕ). n ≤ max_report_number) (report_numbers m (run m times budget room))
  pub read_back : ReadsBack m bytes (records_of (run m times budget room))
  -- the report's living part: by rising number, each a living one, each with its place
  pub living : LivingListed m times (run m times budget room)
  -- beside the run with any other budget and trace length: the records of one begin those of the other, and a run that ended by neither
  -- 3 nor 4 is that of every larger budget and trace
  pub prefix : (budget' room' : ℕ) → Prefix m times budget room budget' room'
  -- so that what is said here of the last state, for every budget, is said of every state but for its end
  pub every-state : StatesAreRuns m times budget room

module _ (model tape : List ℕ) (budget : ℕ) (work trace report : List ℕ) where
  abbrev pub wanted : Outcome
  wanted = outcome in_force model tape budget (length work) (length trace) (length report)

  pub record Contract (r : Results) (work' trace' report' : List ℕ) : Type 0 where
    pub results : Gives wanted r
    -- a refusal of 1 to 10, or else a stated end within the bounds on turns
    pub keeps : Keeping budget wanted
    pub trace-holds : Begins wanted.trace trace trace'
    pub report-holds : Begins wanted.report report report'
    pub refused : (r.refusal ≡ 0 → ⊥) → (work' ≡ work) × (trace' ≡ trace) × (report' ≡ report)
    pub accepted : (m : BlockModel) (times : List (List ℕ)) → validate in_force model tape (length work) (length report) ≡ accept m times
        → Accepted m times budget (length trace) (take r.trace_bytes trace')
