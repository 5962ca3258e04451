-- The run by induction on its steps: whatever follows the machine turn by turn, and tells the machine's end before each turn,
-- follows its run.
use Rattle.machine.specs.All.{ℕ, zero, suc, ◌≡◌, refl, sym, ◌∙◌, List, [], ◌∷◌, ◌++◌, eqb-true, eqb-false, eq-eqb, ne_eqb, eqb, BlockModel, State, set_end, turn, end_before_lem, run_from, states_from, ap, Bool, true, false}
use Rattle.machine.proofs.Runs.RunLaws.{Taken, before, taken_of, run_on, run-off, states-on, states-off}
use Rattle.engine_laws.specs.{run_steps, passed, Along}

-- ---- One step, of any number of steps

module _ {A : Type 0} (end_of : A → ℕ) (step : A → A) (close : ℕ → A → A) where
  -- where no end is asked the first of n + 1 steps is taken
  pub steps_on : (n : ℕ) (a : A) → end_of a ≡ 0 → run_steps end_of step close (suc n) a ≡ run_steps end_of step close n (step a)
  unfolding run_steps
  steps_on n a e = rw (eq-eqb _ 0 e, run_steps)

  -- at an end the steps stop and it is written down
  pub steps-off : (n : ℕ) (a : A) → (end_of a ≡ 0 → ⊥) → run_steps end_of step close (suc n) a ≡ close (end_of a) a
  unfolding run_steps
  steps-off n a h = rw (ne_eqb _ 0 h, run_steps)

  passed_on : (n : ℕ) (a : A) → end_of a ≡ 0 → passed end_of step close (suc n) a ≡ a ∷ passed end_of step close n (step a)
  unfolding passed
  passed_on n a e = rw (eq-eqb _ 0 e, passed)

  passed-off : (n : ℕ) (a : A) → (end_of a ≡ 0 → ⊥) → passed end_of step close (suc n) a ≡ close (end_of a) a ∷ []
  unfolding passed
  passed-off n a h = rw (ne_eqb _ 0 h, passed)

  -- the last that they pass is what they leave
  pub passed-last : (n : ℕ) (a : A) → (front : List A) × (passed end_of step close n a ≡ front ++ (run_steps end_of step close n a ∷ []))
  unfolding passed run_steps
  passed-last zero a = ([], refl)
  passed-last (suc n) a = go (eqb (end_of a) 0) refl (passed-last n (step a))
    where
      go : (b : Bool) → eqb (end_of a) 0 ≡ b → (front : List A)
          × (passed end_of step close n (step a) ≡ front ++ (run_steps end_of step close n (step a) ∷ []))
          → (front : List A) × (passed end_of step close (suc n) a ≡ front ++ (run_steps end_of step close (suc n) a ∷ []))
      go true e rest =
          let z : end_of a ≡ 0 = eqb-true _ _ e in
          rw (passed_on n a z, steps_on n a z) (a ∷ rest.0, ap (λ (l : List A). a ∷ l) rest.1)
      go false e rest =
          let z : (end_of a ≡ 0 → ⊥) = eqb-false _ _ e in
          rw (passed-off n a z, steps-off n a z) ([], refl)

  pub steps-none : (a : A) → run_steps end_of step close 0 a ≡ a
  unfolding run_steps
  steps-none a = refl

-- ---- Along the machine's run

-- R relates what is run to the machine's state, Good is an invariant of the machine's run
pub record Follows (m : BlockModel) (budget room : ℕ) {A : Type 0} (end_of : A → ℕ) (step : A → A) (close : ℕ → A → A)
    (R : A → State → Type 0)
    (Good : State → Type 0) : Type 0 where
  -- both ask for the same end
  pub end : (a : A) (s : State) → Good s → R a s → end_of a ≡ end_before_lem budget room s
  -- a step keeps the tie
  pub turns : (a : A) (s : State) → Taken budget room s → Good s → R a s → R (step a) (turn m s)
  -- writing the end down keeps the tie
  pub closes : (a : A) (s : State) (e : ℕ) → R a s → R (close e a) (set_end e s)
  pub good_turn : (s : State) → Taken budget room s → Good s → Good (turn m s)
  -- what holds of every state holds of an ended one
  pub good-end : (s : State) (e : ℕ) → (e ≡ 0 → ⊥) → Good s → Good (set_end e s)

module _ (m : BlockModel) (budget room : ℕ) {A : Type 0} (end_of : A → ℕ) (step : A → A) (close : ℕ → A → A) (R : A → State → Type 0)
    (Good : State → Type 0)
    (f : Follows m budget room end_of step close R Good) where
  abbrev Both : A → State → Type 0
  Both a s = R a s × Good s

  pub run-follows : (n : ℕ) (a : A) (s : State) → R a s → Good s
      → R (run_steps end_of step close n a) (run_from n m budget room s) × Good (run_from n m budget room s)
  unfolding run_steps run_from
  run-follows zero a s h g = (h, g)
  run-follows (suc n) a s h g = go (eqb (end_before_lem budget room s) 0) refl (run-follows n (step a) (turn m s))
    where
      same : end_of a ≡ end_before_lem budget room s
      same = f.end a s g h

      go : (b : Bool) → eqb (end_before_lem budget room s) 0 ≡ b
          → (R (step a) (turn m s) → Good (turn m s) → Both (run_steps end_of step close n (step a)) (run_from n m budget room (turn m s)))
          → Both (run_steps end_of step close (suc n) a) (run_from (suc n) m budget room s)
      go true e rest =
          let z : end_before_lem budget room s ≡ 0 = eqb-true _ _ e in
          let t : Taken budget room s = taken_of (before budget room s) z in
          rw (run_on m budget room n s z, steps_on end_of step close n a (same ∙ z)) (rest (f.turns a s t g h) (f.good_turn s t g))
      go false e rest =
          let z : (end_before_lem budget room s ≡ 0 → ⊥) = eqb-false _ _ e in
          rw (run-off m budget room n s z, steps-off end_of step close n a (λ q. z (sym same ∙ q)), same)
          (f.closes a s (end_before_lem budget room s) h, f.good-end s (end_before_lem budget room s) z g)

  -- what follows from both in each state, each state of the run has beside the machine's
  pub states_follow : (P : A → State → Type 0) → ((a : A) (s : State) → R a s → Good s → P a s) → (n : ℕ) (a : A) (s : State)
      → R a s → Good s
      → Along P (passed end_of step close n a) (states_from n m budget room s)
  unfolding passed states_from Along
  states_follow P p zero a s h g = (p a s h g, tt)
  states_follow P p (suc n) a s h g = go (eqb (end_before_lem budget room s) 0) refl (states_follow P p n (step a) (turn m s))
    where
      same : end_of a ≡ end_before_lem budget room s
      same = f.end a s g h

      go : (b : Bool) → eqb (end_before_lem budget room s) 0 ≡ b
          → (R (step a) (turn m s) → Good (turn m s) → Along P (passed end_of step close n (step a)) (states_from n m budget room (turn m s)))
          → Along P (passed end_of step close (suc n) a) (states_from (suc n) m budget room s)
      go true e rest =
          let z : end_before_lem budget room s ≡ 0 = eqb-true _ _ e in
          let t : Taken budget room s = taken_of (before budget room s) z in
          rw (states-on m budget room n s z, passed_on end_of step close n a (same ∙ z))
          (p a s h g, rest (f.turns a s t g h) (f.good_turn s t g))
      go false e rest =
          let z : (end_before_lem budget room s ≡ 0 → ⊥) = eqb-false _ _ e in
          rw (states-off m budget room n s z, passed-off end_of step close n a (λ q. z (sym same ∙ q)), same)
          (p _ _ (f.closes a s (end_before_lem budget room s) h) (f.good-end s (end_before_lem budget room s) z g), tt)
