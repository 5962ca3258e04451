-- The run, step by step: what holds at the start and is kept by every turn that is taken and by the end before a turn holds in
-- each state of the run; the last of the states is the run's; every other one has no end.
use Rattle.machine.specs.All.{ℕ, zero, suc, ◌+◌, ◌≤◌, ◌<◌, ◌≡◌, refl, ap, Bool, true, false, cond, ◌||◌, List, [], ◌∷◌, ◌++◌, arith, eqb-true, eqb-false, eq-eqb, ne_eqb, leb-false, ltb-false, not-true, not-false, T, eqb, get_or, max_serial, max_turns, record_room, any_of, BlockModel, State, set_end, turn, nobody_left, end_before_lem, start, run_from, states_from, run, states, steps, Each, stated_end, Ends, leb, ltb}
pub use Rattle.machine.proofs.Basic.Bools.{cond_cases, or_false}
pub use Rattle.machine.proofs.Basic.Each.{each_map, each-pair, each-under}
pub use Rattle.machine.proofs.Basic.Lists.{none-at}

-- ---- Choices

-- ---- Each

at-end : (I : State → Type 0) (front : List State) (s : State) → Each I (front ++ (s ∷ [])) → I s
at-end I [] s h = h.0
at-end I (x ∷ l) s h = at-end I l s h.1

-- the last of the states is one of them
pub each_last : (I : State → Type 0) {s : State} {l : List State} → Ends s l → Each I l → I s
each_last I {s} e h = at-end I e.front s (rw e.all at h)

-- ---- The end before a turn

-- what is known of a state before a turn that is taken
pub record Taken (budget room : ℕ) (s : State) : Type 0 where
  pub no_end : s.end ≡ 0
  pub somebody : nobody_left s ≡ false
  pub serials : s.serial ≤ max_serial
  pub turns-left : s.turns < max_turns
  pub budget-left : s.turns < budget
  pub room-left : s.written + record_room ≤ room

-- where the run ends before a turn: the turn before it has set an end, or nobody is left, or a limit is met
pub record Closing (s : State) (e : ℕ) : Type 0 where
  pub no_end : s.end ≡ 0
  pub dry : e ≡ 1 → nobody_left s ≡ true
  pub stated : T (stated_end e)

pub data Before (budget room : ℕ) (s : State) : ℕ → Type 0 where
  taken : Taken budget room s → Before budget room s 0
  own : (s.end ≡ 0 → ⊥) → Before budget room s s.end
  closing : {e : ℕ} → Closing s (suc e) → Before budget room s (suc e)

-- every way in which the run goes on or ends before a turn, by what was asked first
pub before : (budget room : ℕ) (s : State) → Before budget room s (end_before_lem budget room s)
unfolding end_before_lem
before budget room s =
    cond_cases B _ _ _ (λ e. own (eqb-false _ _ (not-true _ e))) (λ no_end.
    let z : s.end ≡ 0 = eqb-true _ _ (not-false _ no_end) in
    cond_cases B _ _ _ (λ w. closing (record { no_end = z; dry = λ e. w; stated = tt })) (λ w.
    cond_cases B (ltb max_serial s.serial || leb max_turns s.turns) _ _
    (λ l. closing (record { no_end = z; dry = λ e. absurd (two e); stated = tt })) (λ l.
    cond_cases B _ _ _ (λ p. closing (record { no_end = z; dry = λ e. absurd (two e); stated = tt })) (λ p.
    cond_cases B _ _ _ (λ f. closing (record { no_end = z; dry = λ e. absurd (two e); stated = tt })) (λ f.
    let limits = or_false (ltb max_serial s.serial) (leb max_turns s.turns) l in
    taken
    (record {
      no_end = z;
      somebody = w;
      serials = ltb-false _ _ limits.0;
      turns-left = leb-false _ _ limits.1;
      budget-left = leb-false _ _ p;
      room-left = ltb-false _ _ f;
    }))))))
  where
    B : ℕ → Type 0
    B = Before budget room s

    two : {k : ℕ} → suc (suc k) ≡ 1 → ⊥
    two e = omega arith

pub taken_of : {budget room e : ℕ} {s : State} → Before budget room s e → e ≡ 0 → Taken budget room s
taken_of (taken t) z = t
taken_of (own h) z = absurd (h z)
taken_of (closing c) z = absurd (omega arith)

-- ---- One step of the run, of any number of steps

module _ (m : BlockModel) (budget room : ℕ) where
  pub run_on : (n : ℕ) (s : State) → end_before_lem budget room s ≡ 0 → run_from (suc n) m budget room s ≡ run_from n m budget room (turn m s)
  unfolding run_from
  run_on n s e = rw (eq-eqb _ 0 e, run_from)

  pub run-off : (n : ℕ) (s : State) → (end_before_lem budget room s ≡ 0 → ⊥)
      → run_from (suc n) m budget room s ≡ set_end (end_before_lem budget room s) s
  unfolding run_from
  run-off n s h = rw (ne_eqb _ 0 h, run_from)

  pub states-on : (n : ℕ) (s : State) → end_before_lem budget room s ≡ 0
      → states_from (suc n) m budget room s ≡ s ∷ states_from n m budget room (turn m s)
  unfolding states_from
  states-on n s e = rw (eq-eqb _ 0 e, states_from)

  pub states-off : (n : ℕ) (s : State) → (end_before_lem budget room s ≡ 0 → ⊥)
      → states_from (suc n) m budget room s ≡ set_end (end_before_lem budget room s) s ∷ []
  unfolding states_from
  states-off n s h = rw (ne_eqb _ 0 h, states_from)

  -- ---- What every state of the run has

  last-from : (n : ℕ) (s : State) → Ends (run_from n m budget room s) (states_from n m budget room s)
  unfolding run_from states_from
  last-from zero s = record { front = []; all = refl; no-ends = tt }
  last-from (suc n) s = go (eqb (end_before_lem budget room s) 0) refl (last-from n (turn m s))
    where
      go : (b : Bool) → eqb (end_before_lem budget room s) 0 ≡ b
          → Ends (run_from n m budget room (turn m s)) (states_from n m budget room (turn m s))
          → Ends (run_from (suc n) m budget room s) (states_from (suc n) m budget room s)
      go true e h =
          let z : end_before_lem budget room s ≡ 0 = eqb-true _ _ e in
          rw (run_on n s z, states-on n s z)
          (record {
            front = s ∷ h.front;
            all = ap (λ l. s ∷ l) h.all;
            no-ends = ((taken_of (before budget room s) z).no_end, h.no-ends);
          })
      go false e h =
          let z : (end_before_lem budget room s ≡ 0 → ⊥) = eqb-false _ _ e in
          rw (run-off n s z, states-off n s z) (record { front = []; all = refl; no-ends = tt })

  -- the states are those of the very run
  pub last : (tape : List (List ℕ)) → Ends (run m tape budget room) (states m tape budget room)
  unfolding run states
  last tape = last-from steps (start m tape)

  module _ (I : State → Type 0) (step : (s : State) → Taken budget room s → I s → I (turn m s))
      (close : (s : State) (e : ℕ) → Closing s e → I s → I (set_end e s)) where
    kept-at-end : (s : State) → I s → {e : ℕ} → Before budget room s e → (e ≡ 0 → ⊥) → I (set_end e s)
    kept-at-end s i (taken t) z = absurd (z refl)
    kept-at-end s i (own h) z = i
    kept-at-end s i (closing {e = e} c) z = close s (suc e) c i

    each_from : (n : ℕ) (s : State) → I s → Each I (states_from n m budget room s)
    unfolding states_from
    each_from zero s i = (i, tt)
    each_from (suc n) s i = go (eqb (end_before_lem budget room s) 0) refl (each_from n (turn m s))
      where
        go : (b : Bool) → eqb (end_before_lem budget room s) 0 ≡ b → (I (turn m s) → Each I (states_from n m budget room (turn m s)))
            → Each I (states_from (suc n) m budget room s)
        go true e h =
            let z : end_before_lem budget room s ≡ 0 = eqb-true _ _ e in
            rw (states-on n s z) (i, h (step s (taken_of (before budget room s) z) i))
        go false e h =
            let z : (end_before_lem budget room s ≡ 0 → ⊥) = eqb-false _ _ e in
            rw (states-off n s z) (kept-at-end s i (before budget room s) z, tt)

    -- an invariant of the start holds in every state of the run
    pub each-state : (tape : List (List ℕ)) → I (start m tape) → Each I (states m tape budget room)
    unfolding states
    each-state tape i = each_from steps (start m tape) i

    -- and so in the last
    pub last-state : (tape : List (List ℕ)) → I (start m tape) → I (run m tape budget room)
    last-state tape i = each_last I (last tape) (each-state tape i)
