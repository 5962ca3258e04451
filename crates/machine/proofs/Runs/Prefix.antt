-- Every run is a number of turns from the start, with an end set: so of two runs one begins the other. With no smaller budget and room
-- every turn that was taken is taken again, and an end other than 3 and 4 is met again.
use Rattle.machine.specs.All.{cases, ℕ, zero, suc, ◌+◌, ◌-◌, ◌≤◌, ◌<◌, ◌≡◌, refl, sym, ap, ◌∙◌, ◌||◌, List, [], ◌∷◌, ◌++◌, map, reverse, append_assoc, map-append, reverse-append, length, drop, drop-append_seam, arith, zero-add, suc-add, eqb-true, eqb-false, eq-eqb, le-ltb, lt-leb, leb, ltb, eqb, max_serial, max_turns, record_room, Record, BlockModel, State, Logged, set_use, set_end, turn, nobody_left, end_before_lem, idle, start, run_from, states_from, run, states, steps, records_of, Each}
use Rattle.machine.specs.Prefix.{BeginsWith, Prefix, StatesAreRuns}
use Rattle.machine.proofs as our
use our.Runs.RunLaws.{Taken, before, taken_of, run_on, run-off, states-on, states-off, each_map}
use our.Runs.Kept.{Closed, turn-kept, start-kept}

-- ---- Turns: each counts one and writes behind what was written

-- some records are others, and new ones in front: they stand newest first
record Extends (old records : List Logged) : Type 0 where
  pub more : List Logged
  pub is : records ≡ more ++ old

abbrev Follows : (turns : ℕ) (old : List Logged) → State → Type 0
Follows k old s = (s.turns ≡ k) × Extends old s.records

follows_closed : (k : ℕ) (old : List Logged) → Closed (Follows k old)
unfolding set_use
follows_closed k old =
    record {
      entries = λ i n s h. h;
      queues = λ i q s h. h;
      units = λ v n holder preempted s le h. h;
      clock = λ time ticks s h. h;
      ql = λ i l s h. h;
      wel = λ i l s h. h;
      samples = λ i l s h. h;
      wsl = λ l s h. h;
      rel = λ l s h. h;
      fel = λ l s h. h;
      gatherers = λ i l s h. h;
      interrupted = λ l s h. h;
      moving = λ o s h. h;
      serial = λ n s h. h;
      counter = λ n s h. h;
      made = λ n s h. h;
      ended = λ n s h. h;
      written = λ n r s h. (h.0, record { more = r ∷ h.1.more; is = ap (λ l. r ∷ l) h.1.is });
      stop = λ n s e h. h;
    }

unchanged : (records : List Logged) → Extends records records
unchanged records = record { more = []; is = refl }

module _ (m : BlockModel) where
  turn-follows : (s : State) → Follows (suc s.turns) s.records (turn m s)
  turn-follows s =
      turn-kept _ _ (follows_closed s.turns s.records) (follows_closed (suc s.turns) s.records) m s
      (λ s' p. (refl, p.1)) (refl, unchanged _)

  -- so many turns
  abbrev turned : ℕ → State → State
  turned zero s = s
  turned (suc k) s = turned k (turn m s)

  turned-follows : (k : ℕ) (s : State) → Follows (k + s.turns) s.records (turned k s)
  turned-follows zero s = (omega arith, unchanged _)
  turned-follows (suc k) s =
      let first = turn-follows s in
      let rest = turned-follows k (turn m s) in (
        rest.0 ∙ ap (λ n. k + n) first.0 ∙ omega arith,
        record {
          more = rest.1.more ++ first.1.more;
          is = rest.1.is ∙ ap (λ l. rest.1.more ++ l) first.1.is ∙ sym (append_assoc rest.1.more first.1.more s.records);
        },
      )

  turned-add : (k n : ℕ) (s : State) → turned (k + n) s ≡ turned n (turned k s)
  turned-add zero n s = ap (λ i. turned i s) (zero-add n)
  turned-add (suc k) n s = ap (λ i. turned i s) (suc-add k n) ∙ turned-add k n (turn m s)

  -- ---- The run: a number of turns, and an end

  record Reached (s y : State) : Type 0 where
    pub count : ℕ
    pub is : y ≡ set_end y.end (turned count s)

  module _ (budget room : ℕ) where
    reached : (n : ℕ) (s : State) → Reached s (run_from n m budget room s)
    unfolding run_from
    reached zero s = record { count = 0; is = refl }
    reached (suc n) s =
        cases (eqb (end_before_lem budget room s) 0)
        (λ e. let z : end_before_lem budget room s ≡ 0 = eqb-true _ _ e in
        let rest = reached n (turn m s) in
        rw (run_on m budget room n s z) (record { count = suc rest.count; is = rest.is }))
        (λ e. let z = eqb-false _ _ e in
        rw (run-off m budget room n s z) (record { count = 0; is = refl }))

    -- no run goes back behind where it began
    at_least : (n : ℕ) (s : State) → s.turns ≤ (run_from n m budget room s).turns
    at_least n s =
        let r = reached n s in
        let k : (run_from n m budget room s).turns ≡ r.count + s.turns = ap (λ x. x.turns) r.is ∙ (turned-follows r.count s).0 in
        omega (arith, k)

  -- ---- The end before a turn

  -- what is known before a turn that is taken is all that is asked
  taken-before : {budget room : ℕ} {s : State} → Taken budget room s → end_before_lem budget room s ≡ 0
  unfolding end_before_lem
  taken-before {budget} {room} {s} t =
      rw (
        eq-eqb s.end 0 t.no_end,
        t.somebody,
        le-ltb max_serial s.serial t.serials,
        lt-leb max_turns s.turns t.turns-left,
        lt-leb budget s.turns t.budget-left,
        le-ltb room (s.written + record_room) t.room-left,
      )
      refl

  -- and of another budget and room only these two
  taken_with : {budget room : ℕ} {s : State} → Taken budget room s → (budget' room' : ℕ)
      → s.turns < budget' → s.written + record_room ≤ room' → end_before_lem budget' room' s ≡ 0
  taken_with t budget' room' left fits =
      taken-before
      (record {
        no_end = t.no_end;
        somebody = t.somebody;
        serials = t.serials;
        turns-left = t.turns-left;
        budget-left = left;
        room-left = fits;
      })

  -- ---- A budget and a room that are no smaller

  module _ {budget room budget' room' : ℕ} (more : budget ≤ budget') (wider : room ≤ room') where
    -- a turn that is taken is taken
    before-taken : (s : State) → end_before_lem budget room s ≡ 0 → end_before_lem budget' room' s ≡ 0
    before-taken s e =
        let t : Taken budget room s = taken_of (before budget room s) e in
        taken_with t budget' room' (omega (arith, t.budget-left, more)) (omega (arith, t.room-left, wider))

    -- an end other than 3 and 4 is met again
    before-own : (s : State) → (end_before_lem budget room s ≡ 0 → ⊥) → (end_before_lem budget room s ≡ 3 → ⊥) → (end_before_lem budget room s ≡ 4 → ⊥)
        → end_before_lem budget' room' s ≡ end_before_lem budget room s
    unfolding end_before_lem
    before-own s =
        cases (eqb s.end 0)
        (λ none. cases (nobody_left s)
        (λ dry. rw (none, dry) (λ z three four. refl))
        (λ some. cases (ltb max_serial s.serial || leb max_turns s.turns)
        (λ limit. rw (none, some, limit) (λ z three four. refl))
        (λ within. cases (leb budget s.turns)
        (λ used. rw (none, some, within, used) (λ z three four. absurd (three refl)))
        (λ left. cases (ltb room (s.written + record_room))
        (λ full. rw (none, some, within, left, full) (λ z three four. absurd (four refl)))
        (λ fits. rw (none, some, within, left, fits) (λ z three four. absurd (z refl)))))))
        (λ own. rw own (λ z three four. refl))

    longer-from : (n : ℕ) (s : State) → (run_from n m budget room s).turns ≤ (run_from n m budget' room' s).turns
    unfolding run_from
    longer-from zero s = omega arith
    longer-from (suc n) s =
        cases (eqb (end_before_lem budget room s) 0)
        (λ e. let z : end_before_lem budget room s ≡ 0 = eqb-true _ _ e in
        rw (run_on m budget room n s z, run_on m budget' room' n s (before-taken s z)) (longer-from n (turn m s)))
        (λ e. rw (run-off m budget room n s (eqb-false _ _ e)) (at_least budget' room' (suc n) s))

    own-from : (n : ℕ) (s : State) → ((run_from n m budget room s).end ≡ 3 → ⊥) → ((run_from n m budget room s).end ≡ 4 → ⊥)
        → run_from n m budget' room' s ≡ run_from n m budget room s
    unfolding run_from
    own-from zero s = λ three four. refl
    own-from (suc n) s =
        cases (eqb (end_before_lem budget room s) 0)
        (λ e. let z : end_before_lem budget room s ≡ 0 = eqb-true _ _ e in
        rw (run_on m budget room n s z, run_on m budget' room' n s (before-taken s z)) (own-from n (turn m s)))
        (λ e. let z : end_before_lem budget room s ≡ 0 → ⊥ = eqb-false _ _ e in
        rw (run-off m budget room n s z)
        (λ three four.
        let again : end_before_lem budget' room' s ≡ end_before_lem budget room s = before-own s z three four in
        run-off m budget' room' n s (λ w. z (sym again ∙ w)) ∙ ap (λ x. set_end x s) again))

  -- ---- The two runs

  start-turns : (tape : List (List ℕ)) → (start m tape).turns ≡ 0
  start-turns tape = (start-kept _ (follows_closed 0 []) m tape (unfold idle in (refl, unchanged _))).0

  -- records that are extended begin what they are extended to
  begins_with : (a b : State) → Extends a.records b.records → BeginsWith (records_of b) (records_of a)
  unfolding records_of
  begins_with a b e =
      let entries : List Logged → List Record = map (λ r. r.entry) in
      let parted : records_of b ≡ records_of a ++ entries (reverse e.more) =
      ap (λ l. entries (reverse l)) e.is ∙ ap entries (reverse-append e.more a.records)
      ∙ map-append _ (reverse a.records) (reverse e.more) in
      parted ∙ ap (λ l. records_of a ++ l) (sym (ap (drop (length (records_of a))) parted ∙ drop-append_seam (records_of a) _))

  module _ (tape : List (List ℕ)) where
    -- a run by the number of its turns
    run-turned : (budget room : ℕ)
        → run m tape budget room ≡ set_end (run m tape budget room).end (turned (run m tape budget room).turns (start m tape))
    unfolding run
    run-turned budget room =
        let r = reached budget room steps (start m tape) in
        let k : r.count ≡ (run m tape budget room).turns =
        sym
        (ap (λ x. x.turns) r.is ∙ (turned-follows r.count (start m tape)).0 ∙ ap (λ n. r.count + n) (start-turns tape)
        ∙ omega arith) in
        r.is ∙ ap (λ n. set_end (run m tape budget room).end (turned n (start m tape))) k

    module _ (budget room budget' room' : ℕ) where
      same-states : (run m tape budget room).turns ≡ (run m tape budget' room').turns
          → set_end 0 (run m tape budget' room') ≡ set_end 0 (run m tape budget room)
      same-states e =
          ap (set_end 0) (run-turned budget' room') ∙ ap (λ n. set_end 0 (turned n (start m tape))) (sym e)
          ∙ sym (ap (set_end 0) (run-turned budget room))

      extended : (run m tape budget room).turns ≤ (run m tape budget' room').turns
          → Extends (run m tape budget room).records (run m tape budget' room').records
      extended le =
          let k : ℕ = (run m tape budget room).turns in
          let rest : ℕ = (run m tape budget' room').turns - k in
          let split : turned (run m tape budget' room').turns (start m tape) ≡ turned rest (turned k (start m tape)) =
          ap (λ n. turned n (start m tape)) (whole k (run m tape budget' room').turns le) ∙ turned-add k rest (start m tape) in
          let behind = (turned-follows rest (turned k (start m tape))).1 in
          record {
            more = behind.more;
            is =
                ap (λ s. s.records) (run-turned budget' room') ∙ ap (λ s. s.records) split ∙ behind.is
                ∙ ap (λ l. behind.more ++ l) (sym (ap (λ s. s.records) (run-turned budget room)));
          }
        where
          whole : (a b : ℕ) → a ≤ b → b ≡ a + (b - a)
          whole a b le = omega arith

      pub prefix : Prefix m tape budget room budget' room'
      unfolding run
      prefix =
          record {
            same = same-states;
            begins = λ le. begins_with _ _ (extended le);
            longer = λ more wider. longer-from more wider steps (start m tape);
            own-end = λ more wider. own-from more wider steps (start m tape);
          }

  -- ---- Each state is a run of its own

  -- with a budget of its turns a run stops where it stands
  stops : (n room : ℕ) (s : State) → set_end 0 s ≡ set_end 0 (run_from (suc n) m s.turns room s)
  stops n room s =
      let no-turn : end_before_lem s.turns room s ≡ 0 → ⊥ = λ z. absurd (omega (arith, (taken_of (before s.turns room s) z).budget-left)) in
      rw (run-off m s.turns room n s no-turn) refl

  module _ (budget room : ℕ) where
    -- of the states from s on: no turn is undone, and each is that run's
    abbrev OwnRun : (n : ℕ) (s y : State) → Type 0
    OwnRun n s y = (s.turns ≤ y.turns) × (set_end 0 y ≡ set_end 0 (run_from n m y.turns room s))

    own_runs : (n : ℕ) (s : State) → Each (OwnRun n s) (states_from n m budget room s)
    unfolding run_from states_from
    own_runs zero s = ((omega arith, refl), tt)
    own_runs (suc n) s =
        cases (eqb (end_before_lem budget room s) 0)
        (λ e. let z : end_before_lem budget room s ≡ 0 = eqb-true _ _ e in
        rw (states-on m budget room n s z)
        ((omega arith, stops n room s), each_map (passed z) (states_from n m budget room (turn m s)) (own_runs n (turn m s))))
        (λ e. rw (states-off m budget room n s (eqb-false _ _ e)) ((omega arith, stops n room s), tt))
      where
        -- a state behind the turn: with its own budget that turn is taken too
        passed : end_before_lem budget room s ≡ 0 → (y : State) → OwnRun n (turn m s) y → OwnRun (suc n) s y
        passed z y h =
            let t : Taken budget room s = taken_of (before budget room s) z in
            let counted : (turn m s).turns ≡ suc s.turns = (turn-follows s).0 in
            let again : end_before_lem y.turns room s ≡ 0 = taken_with t y.turns room (omega (arith, h.0, counted)) t.room-left in (
              omega (arith, h.0, counted),
              h.1 ∙ ap (set_end 0) (sym (run_on m y.turns room n s again)),
            )

    pub states_are-runs : (tape : List (List ℕ)) → StatesAreRuns m tape budget room
    unfolding states run
    states_are-runs tape = each_map (λ y h. h.1) (states m tape budget room) (own_runs steps (start m tape))
