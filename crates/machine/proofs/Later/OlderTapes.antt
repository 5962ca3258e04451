-- "Runs of older tapes that did not end 22 keep their bytes", from bytes, and every trace that was taken is taken alike.
use Rattle.machine.specs.All.{ℕ, ◌≡◌, refl, sym, ap, subst, ◌∙◌, Bool, true, false, cond, List, arith, leb, ltb, length, work_numbers, report_room, Rules, document01, item1, document02, Cursor, Parsed, parsed, refused, BlockModel, Record, Reading, taken, refusal, no_more, record_fields, reading, read_record, run, beginning, model_of_lem, Validation, accept, reject, with_tape, with_model, validate, accepted_run, refused_run, outcome_of, outcome, Wider, AllowsNoLess, SameBytes, KeepsRuns, KeepsTraces}
use Rattle.machine.proofs as our
use our.Decoding.ProperFrom.{rules-from, refusal-from}
use our.Decoding.WiderParsing.{Kept, with_rules, Follows, tape_widens, record_widens, model-follows, own-rules}
use our.{Later.SameTurns.accepted-same, Later.LaterClock.later_same}

-- ---- Validation

-- what was accepted is accepted, the model with the new rules
abbrev pub Accepted : Rules → Validation → Validation → Type 0
Accepted new (accept m t) v = v ≡ accept (with_rules new m) t
Accepted new (reject n) v = Unit {0}

-- where the same question is asked first
asked : (new : Rules) (b : Bool) (n : ℕ) (x x' : Validation) → Accepted new x x' → Accepted new (cond b x (reject n)) (cond b x' (reject n))
asked new true n x x' h = h
asked new false n x x' h = tt

module _ {old new : Rules} (wider : Wider old new) where
  with-tape : (m : BlockModel) (r r' : Parsed (List (List ℕ))) → Kept r r' → Accepted new (with_tape m r) (with_tape (with_rules new m) r')
  unfolding with_tape
  with-tape m (parsed t c) r' h = rw h
  with-tape m (refused n) r' h = tt

  with-model : (model tape : List ℕ) (r r' : Parsed BlockModel) → model_of_lem old model beginning ≡ r → Follows new r r'
      → Accepted new (with_model tape r) (with_model tape r')
  unfolding with_model
  with-model model tape (parsed m c) r' e h =
      subst (λ r. Accepted new (with_model tape (parsed m c)) (with_model tape r)) (sym h)
      (with-tape m _ _
      (rw (own-rules old model m c e) ((tape_widens wider tape m.lists).from beginning)))
  with-model model tape (refused n) r' e h = tt

  -- what the old rules accept the new ones accept as the same model and tape, but for the rules
  pub validated : (model tape : List ℕ) (work report : ℕ)
      → Accepted new (validate old model tape work report) (validate new model tape work report)
  unfolding validate
  validated model tape work report =
      asked new (leb work_numbers work) 1 _ _
      (asked new (leb report_room report) 2 _ _
      (with-model model tape (model_of_lem old model beginning) (model_of_lem new model beginning) refl
      (model-follows new old model wider.kinds wider.editions beginning)))

  -- ---- Traces

  -- what was not refused is answered alike
  abbrev Answered : Reading → Reading → Type 0
  Answered (taken r after) q = q ≡ taken r after
  Answered (refusal n) q = Unit {0}
  Answered no_more q = q ≡ no_more

  answered : (s : List ℕ) (at : ℕ) → Answered (read_record old s at) (read_record new s at)
  unfolding read_record reading
  answered s at = go (ltb at (length s))
    where
      c : Cursor
      c = record { position = at; numbers = 0; mentions = 0 }

      read : (r r' : Parsed Record) → Kept r r' → Answered (reading r) (reading r')
      read (parsed r c) r' h = rw h
      read (refused n) r' h = tt

      go : (b : Bool) → Answered (cond b (reading (record_fields old s c)) no_more) (cond b (reading (record_fields new s c)) no_more)
      go true = read (record_fields old s c) (record_fields new s c) ((record_widens wider s).from c)
      go false = refl

  pub keeps-traces : KeepsTraces old new
  keeps-traces =
      record {
        records = λ s at e. rw e at (answered s at);
        ends = λ s at e. rw e at (answered s at);
      }

-- ---- From bytes

-- what was accepted is accepted, and a run that did not end 22 is the very same, states and all
pub same_runs : {old new : Rules} → AllowsNoLess old new → (model tape : List ℕ) (work report : ℕ) {m : BlockModel} {t : List (List ℕ)}
    → validate old model tape work report ≡ accept m t
    → (validate new model tape work report ≡ accept (with_rules new m) t)
    × ((budget room : ℕ) → ((run m t budget room).end ≡ 22 → ⊥) → run (with_rules new m) t budget room ≡ run m t budget room)
same_runs {old} {new} less model tape work report {m} {t} e =
    let own : m.rules ≡ old = rules-from old model tape work report e in
    let higher = rw (← own) at less.wider.clock in
    let holders = ap (λ (r : Rules). r.holders) own ∙ less.holders in (
      subst (λ v. Accepted new v (validate new model tape work report)) e (validated less.wider model tape work report),
      later_same new m higher holders t,
    )

pub keeps-runs : {old new : Rules} → AllowsNoLess old new → KeepsRuns old new
unfolding outcome outcome_of accepted_run refused_run
keeps-runs {old} {new} less model tape budget work room report = go (validate old model tape work report) refl
  where
    go : (v : Validation) → validate old model tape work report ≡ v
        → SameBytes (outcome_of budget room v) (outcome_of budget room (validate new model tape work report))
    go (accept m t) e z ne =
        let same = same_runs less model tape work report e in
        ap (outcome_of budget room) same.0 ∙ ap (accepted_run (with_rules new m)) (same.1 budget room ne)
        ∙ accepted-same new m (run m t budget room)
    go (reject n) e z ne = absurd (omega (arith, (refusal-from old model tape work report e).0))

-- ---- Documents 01 and 02

wider_year : Wider document01 item1
wider_year = record { clock = omega arith; time = omega arith; number = omega arith; kinds = omega arith; editions = omega arith }

pub older_year : AllowsNoLess document01 item1
older_year = record { wider = wider_year; holders = refl }

pub older-runs : KeepsRuns document01 item1
older-runs = keeps-runs older_year

pub older-traces : KeepsTraces document01 document02
older-traces =
    keeps-traces (record { clock = omega arith; time = omega arith; number = omega arith; kinds = omega arith; editions = omega arith })
