-- The outcome: what `run` promises of a refused run that touches nothing, and of an accepted one from what stands for the last
-- state of the machine's run.
use Rattle.machine.specs.All.{clash, ℕ, ◌≤◌, ◌≡◌, refl, sym, ap, ◌∙◌, subst, Bool, true, false, cond, List, leb-true, leb, length, take, take_at, in_force, work_numbers, report_room, max_report_number, trace_bytes_lem, BlockModel, State, Validation, accept, reject, validate, run, report_numbers, report_bytes_lem, Each, LivingListed, Outcome, records_of, accepted_run, refused_run, outcome_of, outcome, ◌++◌, drop}
use Rattle.machine.proofs.Runs.Prefix.{prefix, states_are-runs}
use Rattle.machine.proofs.{Decoding.Proper.Proper, Decoding.ProperFrom.proper-from, Decoding.ProperFrom.rules-from, Conservation.LivingListed.living-listed, Demand3.demand3, Runs.OutcomeLaws.outcome-keeps}
use Rattle.layout.specs.All.{header_of, Represents}
use Rattle.state.specs.All.{Rows, Stands}
use Rattle.state.proofs.Written.{Kept}
use Rattle.turn_laws.specs.Writes.{Writes}
use Rattle.report_laws.specs.{Writing.written, Writing.put_all, Numbers.row_numbers}
use Rattle.report_laws.proofs.{Fitting.report-small, Report.report-written}
use Rattle.engine_laws.specs.{refused_with, ended_with, Gives, Begins, ReadsBack, Accepted, wanted}
use Rattle.engine_laws.specs.Contract.{Contract}
use Rattle.engine_laws.proofs.Reading.{reads-back}

-- ---- Accepted: the buffers have their lengths

-- what the two first questions ask
pub rooms : (model tape : List ℕ) (work report : ℕ) (m : BlockModel) (times : List (List ℕ))
    → validate in_force model tape work report ≡ accept m times
    → (work_numbers ≤ work) × (report_room ≤ report)
unfolding validate
rooms model tape work report m times e = go (leb work_numbers work) (leb report_room report) refl refl _ e
  where
    go : (a b : Bool) → leb work_numbers work ≡ a → leb report_room report ≡ b → (v : Validation)
        → cond a (cond b v (reject 2)) (reject 1) ≡ accept m times
        → (work_numbers ≤ work) × (report_room ≤ report)
    go true true p q v e = (leb-true _ _ p, leb-true _ _ q)
    go true false p q v e = clash (cc)
    go false b p q v e = clash (cc)

module _ (model tape : List ℕ) (budget : ℕ) (work trace report : List ℕ) where
  abbrev answer : Validation
  answer = validate in_force model tape (length work) (length report)

  abbrev o : Outcome
  o = wanted model tape budget work trace report

  -- ---- Refused

  -- a refused run leaves the buffers and answers the number of the first question that failed
  pub refused-runs : (n : ℕ) → answer ≡ reject n → Contract model tape budget work trace report (refused_with n) work trace report
  unfolding outcome outcome_of refused_run
  refused-runs n e =
      let is : o ≡ refused_run n = cc e in
      record {
        results =
            subst (λ (x : Outcome). Gives x (refused_with n)) (sym is)
            (record {
              refusal = refl;
              end = refl;
              clock = refl;
              turns = refl;
              made = refl;
              ended = refl;
              trace-bytes = refl;
              report-bytes = refl;
            });
        keeps = outcome-keeps in_force model tape budget _ _ _;
        trace-holds = rw is refl;
        report-holds = rw is refl;
        refused = λ z. (refl, refl, refl);
        accepted = λ m times h. absurd (never m times h);
      }
    where
      never : (m : BlockModel) (times : List (List ℕ)) → answer ≡ accept m times → ⊥
      never m times h = clash (cc)

  -- ---- Accepted

  module _ (m : BlockModel) (times : List (List ℕ)) (accepted : answer ≡ accept m times) where
    abbrev s : State
    s = run m times budget (length trace)

    accepted-is : o ≡ accepted_run m s
    unfolding outcome outcome_of
    accepted-is = ap (outcome_of budget (length trace)) accepted

    same-model : (m' : BlockModel) (times' : List (List ℕ)) → answer ≡ accept m' times' → m ≡ m'
    same-model m' times' h' = cc

    same-times : (m' : BlockModel) (times' : List (List ℕ)) → answer ≡ accept m' times' → times ≡ times'
    same-times m' times' h' = cc

    module _ (r : Rows) (work' trace' report' : List ℕ) (n : ℕ) (tables lists : List ℕ) (represents : Represents m times tape tables lists)
        (stands : Stands tape r s.moving s) (writes : Writes trace trace' s) (kept : Kept m times (length trace) s)
        (reported : written n report' ≡ put_all (row_numbers (header_of m) tables r.tally r.work r.scalars) (written 0 report)) where
      proper : Proper m times
      proper = proper-from in_force model tape (length work) (length report) accepted

      bytes : r.scalars.used ≡ length (trace_bytes_lem (records_of s))
      bytes = stands.counting.used ∙ kept.traced.written

      trace-begins : Begins (trace_bytes_lem (records_of s)) trace trace'
      trace-begins = writes.bytes ∙ ap (λ (k : ℕ). trace_bytes_lem (records_of s) ++ drop k trace) kept.traced.written

      front : take r.scalars.used trace' ≡ trace_bytes_lem (records_of s)
      front =
          ap (take r.scalars.used) trace-begins
          ∙ take_at (trace_bytes_lem (records_of s)) (drop (length (trace_bytes_lem (records_of s))) trace) r.scalars.used (sym bytes)

      report-begins : (n ≡ length (report_bytes_lem m s)) × Begins (report_bytes_lem m s) report report'
      report-begins =
          report-written m times tape tables lists (length trace) r s proper represents kept.sure.sane kept.sure.sound
          kept.traced stands
          n report report' (rooms model tape (length work) (length report) m times accepted).1 reported

      gives : Gives (accepted_run m s) (ended_with r.scalars n)
      unfolding accepted_run
      gives =
          record {
            refusal = refl;
            end = stands.counting.end;
            clock = stands.counting.clock;
            turns = stands.counting.turns;
            made = stands.counting.made;
            ended = stands.counting.ended;
            trace-bytes = bytes;
            report-bytes = report-begins.0;
          }

      all : (m' : BlockModel) (times' : List (List ℕ)) → answer ≡ accept m' times' → m ≡ m' → times ≡ times'
          → Accepted m' times' budget (length trace) (take r.scalars.used trace')
      all m' times' h' e f =
          record {
            rules = rules-from in_force model tape (length work) (length report) h';
            demand3 = demand3 in_force model tape _ _ budget _ h';
            report-small =
                subst (λ (x : BlockModel). Each (λ (k : ℕ). k ≤ max_report_number) (report_numbers x (run x times' budget (length trace)))) e
                (rw f at (report-small m times s proper kept.sure.sane kept.sure.sound kept.traced.number));
            read_back =
                subst (λ (x : BlockModel). ReadsBack x (take r.scalars.used trace') (records_of (run x times' budget (length trace)))) e
                (rw f at (subst (λ (l : List ℕ). ReadsBack m l (records_of s)) (sym front) (reads-back s kept.traced)));
            living =
                rw e at (subst (λ (x : List (List ℕ)). LivingListed m x (run m x budget (length trace))) f
                (living-listed s kept.sure.sound));
            prefix = prefix m' times' budget (length trace);
            every-state = states_are-runs m' budget (length trace) times';
          }

      -- an accepted run: trace, report and eight numbers are those of the machine's last state
      pub accepted-runs : Contract model tape budget work trace report (ended_with r.scalars n) work' trace' report'
      unfolding accepted_run
      accepted-runs =
          record {
            results = rw accepted-is gives;
            keeps = outcome-keeps in_force model tape budget _ _ _;
            trace-holds = rw accepted-is trace-begins;
            report-holds = rw accepted-is report-begins.1;
            refused = λ z. absurd (z refl);
            accepted = λ m' times' h'. all m' times' h' (same-model m' times' h') (same-times m' times' h');
          }
