-- The turns of a run over rows, one by one, and what is left after the report.
use Rattle.machine.specs.All.{ℕ, suc, ◌-◌, ◌≤◌, ◌<◌, ◌≡◌, refl, sym, ◌∙◌, subst, List, arith, ap}
use Rattle.constants.specs.declared.model.Model.{Model}
use Rattle.state.specs.{declared.scalars.Scalars.Scalars, All.put_end, All.Rows, All.rows_of}
use Rattle.turn_laws.specs.Turn.{Traced, traced, turn}
use Rattle.report_laws.specs.{Writing.written, Writing.put_all, Numbers.row_numbers}
use Rattle.engine_laws.specs.declared.outcome.Outcome.{Outcome as Results}
use Rattle.engine_laws.specs.{end_rows, end_of, close_rows, turn_rows, turns_from, turns_rows, ended_with, Finishes}
use Rattle.engine_laws.proofs.StepLaws.{steps_on, steps-off, steps-none}

-- ---- One turn

module _ (model : Model) (tables tape : List ℕ) (budget room : ℕ) (x : Scalars) (work tally trace : List ℕ) where
  abbrev here : Traced
  here = traced (rows_of x work tally) trace

  end-of : end_of budget room here ≡ end_rows work x budget room
  unfolding end_of traced rows_of
  end-of = refl

  turn_of : turn_rows model tables tape here ≡ turn model tables tape work tally trace x
  unfolding turn_rows traced rows_of
  turn_of = refl

  close_of : (e : ℕ) → close_rows e here ≡ traced (rows_of (put_end e x) work tally) trace
  unfolding close_rows traced rows_of
  close_of e = refl

  -- no steps left: the rows stay
  pub turns-none : (n : ℕ) → n ≤ 0 → turns_from model tables tape budget room n here ≡ here
  turns-none n h =
      ap (λ (k : ℕ). turns_from model tables tape budget room k here) (zero_is n h)
      ∙ steps-none (end_of budget room) (turn_rows model tables tape) close_rows here
    where
      zero_is : (n : ℕ) → n ≤ 0 → n ≡ 0
      zero_is n h = omega arith

  module _ (n e : ℕ) (some : 0 < n) (told : e ≡ end_rows work x budget room) where
    next : n ≡ suc (n - 1)
    next = omega arith

    -- an end: the run stops with it
    pub turns-off : (e ≡ 0 → ⊥) → turns_from model tables tape budget room n here ≡ traced (rows_of (put_end e x) work tally) trace
    turns-off z =
        ap (λ (k : ℕ). turns_from model tables tape budget room k here) next
        ∙ steps-off (end_of budget room) (turn_rows model tables tape) close_rows (n - 1) here (λ q. z (told ∙ sym end-of ∙ q))
        ∙ ap (λ (k : ℕ). close_rows k here) (end-of ∙ sym told)
        ∙ close_of e

    -- no end: what is left of the run after a turn is what was
    pub turns-on : e ≡ 0 → (there whole : Traced) → there ≡ turn model tables tape work tally trace x
        → turns_from model tables tape budget room n here ≡ whole
        → turns_from model tables tape budget room (n - 1) there ≡ whole
    turns-on z there whole step rest =
        ap (turns_from model tables tape budget room (n - 1)) (step ∙ sym turn_of)
        ∙ sym
        (ap (λ (k : ℕ). turns_from model tables tape budget room k here) next
        ∙ steps_on (end_of budget room) (turn_rows model tables tape) close_rows (n - 1) here (end-of ∙ sym told ∙ z))
        ∙ rest

-- ---- Some turns, then the rest, in as much room

-- the rest of an inner loop and the rest of the outer one, joined: both lead to the whole
pub turns-joined : (model : Model) (tables tape : List ℕ) (budget room room' n : ℕ) (a : Traced) (n' : ℕ) (a' whole : Traced) → room ≡ room'
    → turns_from model tables tape budget room n a ≡ turns_from model tables tape budget room n' a'
    → turns_from model tables tape budget room' n' a' ≡ whole
    → turns_from model tables tape budget room' n a ≡ whole
turns-joined model tables tape budget room room' n a n' a' whole e h rest = (rw e at h) ∙ rest

-- ---- From the start on

-- the turns from the rows that the start wrote
pub turns-begun : (model : Model) (tables tape : List ℕ) (budget room : ℕ) (x : Scalars) (work tally trace : List ℕ) (r : Rows)
    (there : Traced)
    → there ≡ turns_rows model tables tape budget room (traced (rows_of x work tally) trace) → rows_of x work tally ≡ r
    → there ≡ turns_rows model tables tape budget room (traced r trace)
turns-begun model tables tape budget room x work tally trace r there e f =
    e ∙ ap (λ (q : Rows). turns_rows model tables tape budget room (traced q trace)) f

-- ---- After the report

-- the last rows with results and report written from them
pub finishes : (model : Model) (tables : List ℕ) (x : Scalars) (work tally trace : List ℕ) (last : Traced) (n : ℕ) (r : Results)
    (report report' : List ℕ)
    → traced (rows_of x work tally) trace ≡ last → r ≡ ended_with x n
    → written n report' ≡ put_all (row_numbers model tables tally work x) (written 0 report)
    → Finishes model tables last report r trace report'
unfolding traced rows_of
finishes model tables x work tally trace last n r report report' e f g =
    subst (λ (q : Traced). Finishes model tables q report r trace report') e
    (record {
      results = f ∙ ap (ended_with x) (sym bytes);
      trace-is = refl;
      reported = ap (λ (k : ℕ). written k report') bytes ∙ g;
    })
  where
    bytes : r.report_bytes ≡ n
    bytes = ap (λ (q : Results). q.report_bytes) f
