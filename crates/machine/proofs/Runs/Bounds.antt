-- "run for at most the stated number of turns, always to a stated end": every run stays within its budget and the machine's own
-- limit, never uses up its steps, and ends with one of the stated ends.
use Rattle.machine.specs.All.{ℕ, zero, suc, ◌+◌, ◌≤◌, ◌<◌, ◌≡◌, refl, Bool, true, false, ◌||◌, List, arith, eqb-true, eqb-false, ne_eqb, T, eqb, max_turns, BlockModel, State, set_use, turn, end_before_lem, idle, start, run_from, run, steps, stated_end, Bounded, ap}
use Rattle.machine.proofs as our
use our.Runs.RunLaws.{Taken, Before, taken, own, closing, before, taken_of, run_on, run-off, last-state}
use our.Runs.Kept.{Stop, Closed, turn-kept, start-kept}

-- ---- Every turn counts one, and ends with no end or a stated one

abbrev pub Progress : ℕ → State → Type 0
Progress k s = (s.turns ≡ k) × Stop s.end

progress_closed : (k : ℕ) → Closed (Progress k)
unfolding set_use
progress_closed k =
    record {
      entries = λ i n s h. h;
      queues = λ i q s h. h;
      units = λ v n holder preempted s le h. h;
      clock = λ time ticks s h. h;
      ql = λ i l s h. h;
      wel = λ i l s h. h;
      samples = λ i l s h. h;
      wsl = λ l s h. h;
      rel = λ l s h. h;
      fel = λ l s h. h;
      gatherers = λ i l s h. h;
      interrupted = λ l s h. h;
      moving = λ o s h. h;
      serial = λ n s h. h;
      counter = λ n s h. h;
      made = λ n s h. h;
      ended = λ n s h. h;
      written = λ n r s h. h;
      stop = λ n s e h. (h.0, e);
    }

pub progress-turn : (m : BlockModel) (k : ℕ) (s : State) → Progress k s → Progress (suc k) (turn m s)
progress-turn m k s h =
    turn-kept (Progress k) (Progress (suc k)) (progress_closed k) (progress_closed (suc k)) m s (λ s' p. (ap suc h.0, p.1)) h

pub progress_start : (m : BlockModel) (tape : List (List ℕ)) → Progress 0 (start m tape)
progress_start m tape = start-kept (Progress 0) (progress_closed 0) m tape at-idle
  where
    at-idle : Progress 0 (idle m tape)
    at-idle = unfold idle in (refl, tt)

-- ---- The run

stop-stated : (e : ℕ) → Stop e → (e ≡ 0 → ⊥) → T (stated_end e)
stop-stated e h z = rw (ne_eqb e 0 z) at h

or_right : (a b : Bool) → T b → T (a || b)
or_right true b h = tt
or_right false b h = h

module _ (m : BlockModel) (budget room : ℕ) where
  stated-at : {e : ℕ} (s : State) → Stop s.end → Before budget room s e → (e ≡ 0 → ⊥) → T (stated_end e)
  stated-at s h (taken t) z = absurd (z refl)
  stated-at s h (own n) z = stop-stated s.end h n
  stated-at s h (closing c) z = c.stated

  -- enough steps are never used up
  stated-from : (n : ℕ) (s : State) → Progress s.turns s → s.turns ≤ max_turns → max_turns < n + s.turns
      → T (stated_end (run_from n m budget room s).end)
  stated-from zero s p low high = absurd (omega arith)
  stated-from (suc n) s p low high = go (eqb (end_before_lem budget room s) 0) refl (stated-from n (turn m s))
    where
      next : Progress (suc s.turns) (turn m s)
      next = progress-turn m s.turns s p

      go : (b : Bool) → eqb (end_before_lem budget room s) 0 ≡ b
          → (Progress (turn m s).turns (turn m s) → (turn m s).turns ≤ max_turns → max_turns < n + (turn m s).turns
          → T (stated_end (run_from n m budget room (turn m s)).end))
          → T (stated_end (run_from (suc n) m budget room s).end)
      go true e h =
          let z : end_before_lem budget room s ≡ 0 = eqb-true _ _ e in
          let t : Taken budget room s = taken_of (before budget room s) z in
          rw (run_on m budget room n s z) (h (refl, next.1) (omega (arith, next.0, t.turns-left)) (omega (arith, next.0)))
      go false e h =
          let z : (end_before_lem budget room s ≡ 0 → ⊥) = eqb-false _ _ e in
          rw (run-off m budget room n s z) (stated-at s p.1 (before budget room s) z)

  abbrev Within : State → Type 0
  Within s = (s.turns ≤ budget) × (s.turns ≤ max_turns) × Stop s.end

  within-turn : (s : State) → Taken budget room s → Within s → Within (turn m s)
  within-turn s t h =
      let p : Progress (suc s.turns) (turn m s) = progress-turn m s.turns s (refl, h.2) in
      (omega (arith, p.0, t.budget-left), omega (arith, p.0, t.turns-left), p.1)

  module _ (tape : List (List ℕ)) where
    within-start : Within (start m tape)
    within-start =
        let p : Progress 0 (start m tape) = progress_start m tape in
        (omega (arith, p.0), omega (arith, p.0), p.1)

    pub bounded : Bounded budget (run m tape budget room)
    unfolding run
    bounded =
        let p : Progress 0 (start m tape) = progress_start m tape in
        let w : Within (run m tape budget room) =
        last-state m budget room Within within-turn
        (λ s e c h. (h.0, h.1, or_right (eqb e 0) (stated_end e) c.stated)) tape within-start in
        record {
          within-budget = w.0;
          within-limit = w.1;
          stated = stated-from steps (start m tape) (refl, p.1) (omega (arith, p.0)) (omega (arith, p.0));
        }
