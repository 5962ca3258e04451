-- Where the second clock limit is no lower and all else that a run reads is the same, a run that does not end 22 is the same: of the
-- questions only 22 reads the clock limit.
use Rattle.machine.specs.All.{ℕ, zero, suc, ◌+◌, ◌≤◌, ◌≡◌, refl, ◌∙◌, Bool, true, false, ◌&&◌, List, [], ◌∷◌, Option, none, some, arith, leb-true, le-leb, leb, eqb, max_living, Rules, Transaction, Gatherer, Interrupted, server_at, Share, facility, storage, Block, generate, advance, terminate, takes, frees, wait_server, wait_terms, moves, assign, priority, split, counts, assemble, preempt, give_back, BlockModel, State, set_end, wake_wsl, unless, living, ask_time, ask_generate, ask_advance, ask_holder, held, question, ask_gathers, ask_resume, ask_gives_back, answer, execute, ws_scheme, turn, run, sym, ap, not, ◌||◌, share_server, share_units, block_at, times_left, waits_for, interrupted_at}
use Rattle.machine.proofs as our
use our.Runs.RunLaws.{Before, taken, own, closing}
use our.{Lists.Cases.ws_scheme-cases, Decoding.WiderParsing.with_rules, Later.SameTurns.taken_from}
use our.Later.SameTurns.{AnsweredAlike, turn-same, run-same}

module _ (new : Rules) (m : BlockModel) (higher : m.rules.max_clock ≤ new.max_clock) (holders : m.rules.holders ≡ new.holders) where
  abbrev m' : BlockModel
  m' = with_rules new m

  -- ---- The questions: the answer is 22, or it stays

  time-same : (time : ℕ) (s : State) → (ask_time m time s ≡ 22 → ⊥) → ask_time m' time s ≡ ask_time m time s
  time-same time s h = go (leb (s.view.clock + time) m.rules.max_clock) refl h
    where
      go : (b : Bool) → leb (s.view.clock + time) m.rules.max_clock ≡ b → (unless b 22 0 ≡ 22 → ⊥) → ask_time m' time s ≡ unless b 22 0
      go true e h =
          rw (le-leb (s.view.clock + time) new.max_clock (omega (arith, leb-true (s.view.clock + time) m.rules.max_clock e)))
      go false e h = absurd (h refl)

  generate-same : (l : List ℕ) (s : State) → (ask_generate m l s ≡ 22 → ⊥) → ask_generate m' l s ≡ ask_generate m l s
  unfolding ask_generate
  generate-same [] s h = refl
  generate-same (time ∷ left) s h = go (leb (living s + 1) max_living) h
    where
      go : (b : Bool) → (unless b 21 (ask_time m time s) ≡ 22 → ⊥) → unless b 21 (ask_time m' time s) ≡ unless b 21 (ask_time m time s)
      go true h = time-same time s h
      go false h = refl

  advance-same : (l : List ℕ) (s : State) → (ask_advance m l s ≡ 22 → ⊥) → ask_advance m' l s ≡ ask_advance m l s
  unfolding ask_advance
  advance-same [] s h = refl
  advance-same (time ∷ left) s h = time-same time s h

  holder-same : (x : Share) (t : Transaction) (s : State) → ask_holder m' x t s ≡ ask_holder m x t s
  unfolding ask_holder
  holder-same (facility v) t s =
      ap (λ b. unless (not (server_at s.view v).preempted) 27 (unless (not b || eqb (server_at s.view v).holder t.number) 27 0))
      (sym holders)
  holder-same (storage v b) t s = refl

  gathers_same : (l : List Gatherer) (t : Transaction) (s : State) → ask_gathers m' l t s ≡ ask_gathers m l t s
  unfolding ask_gathers held
  gathers_same [] t s = refl
  gathers_same (g ∷ l) t s = ap (λ b. unless (not b || eqb (held m s.view t.number) 0) 28 0) (sym holders)

  resume-same : (l : List Interrupted) (s : State) → (ask_resume m l s ≡ 22 → ⊥) → ask_resume m' l s ≡ ask_resume m l s
  unfolding ask_resume
  resume-same [] s h = refl
  resume-same (i ∷ l) s h = time-same i.remaining s h

  give_back-same : (f : ℕ) (t : Transaction) (s : State) → (ask_gives_back m f t s ≡ 22 → ⊥) → ask_gives_back m' f t s ≡ ask_gives_back m f t s
  unfolding ask_gives_back
  give_back-same f t s h =
      go (leb 1 (server_at s.view f).in_use) ((server_at s.view f).preempted && eqb (server_at s.view f).holder t.number)
      (interrupted_at s f) h
    where
      go : (a b : Bool) (l : List Interrupted) → (unless a 24 (unless b 27 (ask_resume m l s)) ≡ 22 → ⊥)
          → unless a 24 (unless b 27 (ask_resume m' l s)) ≡ unless a 24 (unless b 27 (ask_resume m l s))
      go true true l h = resume-same l s h
      go true false l h = refl
      go false b l h = refl

  question-same : (b : Block) (t : Transaction) (s : State) → (question m b t s ≡ 22 → ⊥) → question m' b t s ≡ question m b t s
  unfolding question held
  question-same (generate list p) t s h = generate-same (times_left s list) s h
  question-same (advance list) t s h = advance-same (times_left s list) s h
  question-same (terminate a) t s h = ap (λ b. unless (not b || eqb (held m s.view t.number) 0) 28 0) (sym holders)
  question-same (takes x) t s h = refl
  question-same (frees x) t s h = ap (unless (leb (share_units x) (server_at s.view (share_server x)).in_use) 24) (holder-same x t s)
  question-same (wait_server code v c) t s h = refl
  question-same (wait_terms a r b) t s h = refl
  question-same (moves c target) t s h = refl
  question-same (assign k a) t s h = refl
  question-same (priority p) t s h = refl
  question-same (split n target) t s h = refl
  question-same (counts c q) t s h = refl
  question-same (assemble n) t s h = gathers_same (waits_for t s) t s
  question-same (preempt f) t s h = refl
  question-same (give_back f) t s h = give_back-same f t s h

  -- ---- The run

  abbrev NotLate : State → Type 0
  NotLate s = s.end ≡ 22 → ⊥

  answer-ends : (n : ℕ) (b : Block) (t : Transaction) (s : State) → n ≡ 22 → (answer n m b t s).end ≡ 22
  unfolding answer
  answer-ends zero b t s e = absurd (omega arith)
  answer-ends (suc n) b t s e = e

  answered-alike : (o : Option Transaction) (s : State) → NotLate (execute o m s) → AnsweredAlike new m o s
  unfolding execute
  answered-alike none s h = tt
  answered-alike (some t) s h =
      question-same (block_at m t.next) t s (λ e. h (answer-ends (question m (block_at m t.next) t s) (block_at m t.next) t s e))

  scheme-end : (s : State) → (ws_scheme m s).end ≡ s.end
  unfolding wake_wsl
  scheme-end s = ws_scheme-cases (λ s'. s'.end ≡ s.end) m s (λ e. refl) (λ e. refl)

  same_turn : (s : State) → NotLate (turn m s) → turn m' s ≡ turn m s
  unfolding turn
  same_turn s h = turn-same new m s (answered-alike (taken_from s).moving (taken_from s) (λ e. h (scheme-end _ ∙ e)))

  same-close : {budget room : ℕ} (s : State) (e : ℕ) → Before budget room s e → (e ≡ 0 → ⊥) → NotLate (set_end e s) → NotLate s
  same-close s _ (taken t) z h = absurd (z refl)
  same-close s _ (own k) z h = h
  same-close s _ (closing c) z h = λ e. omega (arith, c.no_end)

  -- a run that did not end 22 is the same run under a later limit
  pub later_same : (tape : List (List ℕ)) (budget room : ℕ) → NotLate (run m tape budget room)
      → run m' tape budget room ≡ run m tape budget room
  later_same tape budget room h =
      run-same new m budget room (λ s. Unit {0}) NotLate (λ s t i. tt) (λ s t i h. same_turn s h) (λ s t i h e. omega (arith, t.no_end))
      same-close tape tt h
