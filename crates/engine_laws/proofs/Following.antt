-- A whole run over rows follows the machine's: from the laws of the start and of one turn to what `run` promises.
use Rattle.machine.specs.All.{ℕ, ◌≡◌, refl, List, length, replicate, in_force, BlockModel, State, set_end, turn, start, run, steps, accept, validate, records_of}
use Rattle.machine.proofs.{Decoding.Proper.Proper, Decoding.ProperFrom.proper-from, Runs.RunLaws.Taken}
use Rattle.layout.specs.All.{tally_size, header_of, Represents}
use Rattle.state.specs.All.{rows_of, Stands}
use Rattle.state.proofs.Written.{Kept, kept-start, kept-turn, kept-end}
use Rattle.turn_laws.specs.Turn.{Traced, traced}
use Rattle.turn_laws.proofs.Runs.{Runs}
use Rattle.start.specs.Start.{start_rows}
use Rattle.engine_laws.specs.{declared.outcome.Outcome.Outcome as Results, Contract.Contract}
use Rattle.engine_laws.specs.{end_of, close_rows, turn_rows, last_rows, Finishes}
use Rattle.engine_laws.proofs.{EndLaws.end_before, StepLaws.Follows, StepLaws.run-follows, Outcomes.accepted-runs}

-- ---- The end before a turn, kept

closed-stands : (tape : List ℕ) (a : Traced) (s : State) (e : ℕ) → Stands tape a.rows s.moving s
    → Stands tape (close_rows e a).rows s.moving (set_end e s)
unfolding close_rows traced rows_of
closed-stands tape a s e h =
    record {
      listing = h.listing;
      tallying = h.tallying;
      counting =
          record {
            clock = h.counting.clock;
            counter = h.counting.counter;
            serial = h.counting.serial;
            made = h.counting.made;
            ended = h.counting.ended;
            turns = h.counting.turns;
            used = h.counting.used;
            end = refl;
          };
    }

-- ---- All turns

-- of a lent work buffer, and of the part that the rows are in
module _ (model tape : List ℕ) (budget : ℕ) (lent work trace report : List ℕ) (m : BlockModel) (times : List (List ℕ))
    (accepted : validate in_force model tape (length lent) (length report) ≡ accept m times) (tables lists : List ℕ)
    (represents : Represents m times tape tables lists)
    (started : Runs tape trace (traced (start_rows (header_of m) tables tape lists work (replicate tally_size 0)) trace) (start m times))
    (turned : (a : Traced) (s : State) → Taken budget (length trace) s → Kept m times (length trace) s → Runs tape trace a s
    → Runs tape trace (turn_rows (header_of m) tables tape a) (turn m s)) where
  proper : Proper m times
  proper = proper-from in_force model tape (length lent) (length report) accepted

  abbrev R : Traced → State → Type 0
  R = Runs tape trace

  abbrev Good : State → Type 0
  Good = Kept m times (length trace)

  -- the rows and the machine stop before the same turn, and each turn keeps what ties them
  pub follows : Follows m budget (length trace) (end_of budget (length trace)) (turn_rows (header_of m) tables tape) close_rows R Good
  follows =
      record {
        end = λ a s g h. (unfold end_of in end_before tape _ s h.stands budget _);
        turns = turned;
        closes = λ a s e h. (unfold close_rows traced rows_of records_of in record {
          stands = closed-stands tape a s e h.stands;
          writes = record { bytes = h.writes.bytes; written = h.writes.written };
        });
        good_turn = kept-turn proper represents.rules _ budget;
        good-end = kept-end proper represents.rules _ budget;
      }

  abbrev last : Traced
  last = last_rows (header_of m) tables lists tape budget work trace

  last-follows : R last (run m times budget (length trace)) × Good (run m times budget (length trace))
  unfolding run last_rows
  last-follows =
      run-follows m budget (length trace) (end_of budget (length trace)) (turn_rows (header_of m) tables tape) close_rows R Good follows steps
      (traced (start_rows (header_of m) tables tape lists work (replicate tally_size 0)) trace) (start m times) started
      (kept-start proper represents.rules (length trace))

  -- whatever finishes the last rows of an accepted run as `finish` does meets the contract
  pub run-accepted : (r : Results) (lent' trace' report' : List ℕ) → Finishes (header_of m) tables last report r trace' report'
      → Contract model tape budget lent trace report r lent' trace' report'
  run-accepted r lent' trace' report' f =
      rw f.results
      (accepted-runs model tape budget lent trace report m times accepted last.rows lent' trace' report'
      r.report_bytes tables lists represents
      last-follows.0.stands (rw f.trace-is last-follows.0.writes) last-follows.1 f.reported)
