-- Every trace that a run writes is taken: its records lie in the reader's ranges, there is at most one a turn, and their clocks never
-- fall, since the FEL lies ahead of the clock.
use Rattle.machine.specs.All.{ℕ, ◌≤◌, ◌<◌, zero-le, arith, true, List, [], ◌∷◌, ◌++◌, reverse, Option, none, some, ◌≡◌, refl, sym, subst, ◌∙◌, length, length-map, length-reverse, leb, le-leb, in_force, max_serial, max_turns, Transaction, Event, Record, trace_bytes_lem, BlockModel, State, Logged, record_of, move_clock, next_events, take_first, take_ready, taking, turn, idle, start, run, Validation, accept, reject, validate, records_of, accepted_run, refused_run, outcome_of, outcome, Each, ap}
use Rattle.codec.proofs.Fields.{both_true}
use Rattle.machine.proofs.{Decoding.Proper.Proper, Decoding.ProperFrom.proper-from, Decoding.ProperFrom.rules-from, Runs.RunLaws.Taken, Runs.RunLaws.each_map, Runs.RunLaws.last-state, Runs.Bounds.bounded, Runs.Ahead.Ahead, Basic.Taking.arrive_all-clock}
use Rattle.trace.proofs.RoundTrip.{trace-reads-whole}
use Rattle.state.specs.All.{Note, entered_note, waits_note, no_note, logged, count_entry, note_as}
use Rattle.state.proofs.TurnGains.{Turned, unnoted, noted, turned}
use Rattle.state.proofs.Sanity.{taken_of, Sure, taken-took, start_is}
use Rattle.state.proofs.Written.{in_order_lem, in-order-cons, Kept, kept-start, kept-turn, kept-end}
use Rattle.state.proofs.Tallied.{traced-ranges}
use Rattle.columns_laws.specs.{clocks, never_fall, Such}

-- ---- Records, newest first, behind a clock

abbrev Falling : ℕ → List Logged → Type 0
Falling clock [] = Unit {0}
Falling clock (r ∷ l) = (r.entry.clock ≤ clock) × Falling r.entry.clock l

raised : (a b : ℕ) (l : List Logged) → a ≤ b → Falling a l → Falling b l
raised a b [] le h = tt
raised a b (r ∷ l) le h = (omega arith, h.1)

abbrev Noted : State → Type 0
Noted s = Falling s.view.clock s.records

-- a later state with the same records
noted_like : (s s' : State) → s'.records ≡ s.records → s.view.clock ≤ s'.view.clock → Noted s → Noted s'
noted_like s s' r le h = subst (Falling s'.view.clock) (sym r) (raised _ _ s.records le h)

-- ---- The taking never moves the clock back

next_events-clock : (l : List Event) (s : State) → Each (λ (e : Event). s.view.clock ≤ e.time) l
    → s.view.clock ≤ (next_events l s).view.clock
unfolding next_events move_clock
next_events-clock [] s h = omega arith
next_events-clock (e ∷ l) s h = rw (arrive_all-clock) h.0

take_first-clock : (l : List Transaction) (s : State) → (take_first l s).view.clock ≡ s.view.clock
unfolding take_first
take_first-clock [] s = refl
take_first-clock (t ∷ l) s = refl

take_ready-clock : (l : List Transaction) (s : State) → Ahead s → s.view.clock ≤ (take_ready l s).view.clock
unfolding take_ready
take_ready-clock [] s h = rw take_first-clock (next_events-clock s.fel s h.later)
take_ready-clock (t ∷ l) s h = rw take_first-clock (omega arith)

taking-clock : (o : Option Transaction) (s : State) → Ahead s → s.view.clock ≤ (taking o s).view.clock
unfolding taking
taking-clock none s h = take_ready-clock s.rel s h
taking-clock (some t) s h = omega arith

-- ---- The turn

module _ {m : BlockModel} {tape : List (List ℕ)} (proper : Proper m tape) (s : State) (sure : Sure m tape s) (going : s.end ≡ 0)
    (serials : s.serial ≤ max_serial)
    (turns : s.turns < max_turns) where
  abbrev x : State
  x = taken_of s

  noted-taken : Noted s → Noted x
  noted-taken h = noted_like s x (taken-took proper s sure going serials turns).records (taking-clock s.moving s sure.ahead) h

  noted-note : (n : Note) (t : Transaction) (later : State) → later.view.clock ≡ x.view.clock → later.records ≡ x.records → Noted s →
      Noted (note_as n t x later)
  unfolding note_as logged count_entry record_of
  noted-note entered_note t later c r h = (omega arith, subst (Falling x.view.clock) (sym r) (noted-taken h))
  noted-note waits_note t later c r h = (omega arith, subst (Falling x.view.clock) (sym r) (noted-taken h))
  noted-note no_note t later c r h = noted_like x later r (omega arith) (noted-taken h)

  after : {s' : State} → Turned x s' → Noted s → Noted s'
  after {s'} (unnoted g) h = noted_like x s' g.records (omega (arith, g.clock)) (noted-taken h)
  after {s'} (noted t e n later w g) h =
      noted_like (note_as n t x later) s' g.records (omega (arith, g.clock))
      (noted-note n t later w.gains.clock w.gains.records h)

  noted-turn : Noted s → Noted (turn m s)
  unfolding turn
  noted-turn h = after (turned proper x) h

-- ---- In the order of writing

each-end : (x : ℕ) (k : List Record) (r : Record) → Each (λ (q : Record). q.clock ≤ x) k → r.clock ≤ x
    → Each (λ (q : Record). q.clock ≤ x) (k ++ (r ∷ []))
each-end x [] r h e = (e, tt)
each-end x (q ∷ k) r h e = (h.0, each-end x k r h.1 e)

rises-end : (before : ℕ) (k : List Record) (r : Record) → never_fall before (clocks k) ≡ true → before ≤ r.clock
    → Each (λ (q : Record). q.clock ≤ r.clock) k →
    never_fall before (clocks (k ++ (r ∷ []))) ≡ true
unfolding never_fall
rises-end before [] r h le each = rw (le-leb before r.clock le)
rises-end before (q ∷ k) r h le each =
    let t = both_true (leb before q.clock) (never_fall q.clock (clocks k)) h in
    rw t.0 (rises-end q.clock k r t.1 each.0 each.1)

-- of records, newest first, behind a clock
in_order : (x : ℕ) (l : List Logged) → Falling x l → (never_fall 0 (clocks (in_order_lem l)) ≡ true)
    × Each (λ (q : Record). q.clock ≤ x) (in_order_lem l)
in_order x [] h = (unfold never_fall in refl, tt)
in_order x (r ∷ l) h =
    let rest = in_order r.entry.clock l h.1 in
    let more = in-order-cons r l in
    let up : Each (λ (q : Record). q.clock ≤ x) (in_order_lem l) =
    each_map (λ (q : Record) (le : q.clock ≤ r.entry.clock). omega (arith, h.0)) (in_order_lem l) rest.1 in (
      ap (λ (k : List Record). never_fall 0 (clocks k)) more ∙ rises-end 0 (in_order_lem l) r.entry rest.0 zero-le rest.1,
      subst (Each (λ (q : Record). q.clock ≤ x)) (sym more) (each-end x (in_order_lem l) r.entry up h.0),
    )

-- ---- The run

module _ {m : BlockModel} {tape : List (List ℕ)} (proper : Proper m tape) (rules : m.rules ≡ in_force) (budget room : ℕ) where
  abbrev Both : State → Type 0
  Both s = Kept m tape room s × Noted s

  both-start : Both (start m tape)
  both-start =
      let g = start_is proper rules in
      (kept-start proper rules room, subst (Falling (start m tape).view.clock) (sym (g.records ∙ none_yet)) tt)
    where
      none_yet : (idle m tape).records ≡ []
      none_yet = unfold idle in refl

  both-turn : (s : State) → Taken budget room s → Both s → Both (turn m s)
  both-turn s t h =
      (kept-turn proper rules room budget s t h.0, noted-turn proper s h.0.sure t.no_end t.serials t.turns-left h.1)

  both-last : Both (run m tape budget room)
  both-last =
      last-state m budget room Both both-turn (λ s e c h. (kept-end proper rules room budget s e (λ z. rw z at c.stated) h.0, h.1))
      tape both-start

  -- every trace of a run is taken: its records lie in their ranges, its clock never falls
  pub run-taken : Such (trace_bytes_lem (records_of (run m tape budget room))) (records_of (run m tape budget room))
  run-taken =
      let s = run m tape budget room in
      let few = (bounded m budget room tape).within-limit in
      let traced = both-last.0.traced in
      record {
        whole = trace-reads-whole (records_of s) (traced-ranges s traced);
        count = omega (arith, length-all s, traced.number, few);
        clocks = rises s both-last.1;
      }
    where
      length-all : (s : State) → length (records_of s) ≡ length s.records
      length-all s = unfold records_of in (length-map (reverse s.records) (λ r. r.entry) ∙ length-reverse s.records)

      rises : (s : State) → Noted s → never_fall 0 (clocks (records_of s)) ≡ true
      rises s h = unfold records_of in (in_order s.view.clock s.records h).0

-- whatever the bytes: a refused run writes the empty trace
pub outcome-taken : (model tape : List ℕ) (budget work room report : ℕ)
    → (l : List Record) × Such (outcome in_force model tape budget work room report).trace l
unfolding outcome outcome_of accepted_run refused_run trace_bytes_lem
outcome-taken model tape budget work room report = go (validate in_force model tape work report) refl
  where
    go : (v : Validation) → validate in_force model tape work report ≡ v → (l : List Record) × Such (outcome_of budget room v).trace l
    go (accept m t) e = (
      records_of (run m t budget room),
      run-taken (proper-from in_force model tape work report e)
          (rules-from in_force model tape work report e) budget room,
    )
    go (reject n) e = ([], unfold never_fall in record { whole = trace-reads-whole [] tt; count = zero-le; clocks = refl })
