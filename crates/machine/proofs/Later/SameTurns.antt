-- Two models that differ in their rules alone. Effects read no rules, so a turn is the same under both where its question is answered
-- alike; a run whose turns are the same goes through the same states, and its report is the same.
use Rattle.machine.specs.All.{ℕ, zero, suc, ◌≡◌, refl, ap, List, [], ◌∷◌, Option, none, some, eqb-true, eqb-false, eqb, Rules, Transaction, Event, Interrupted, Server, Queue, View, Share, facility, storage, share_server, Block, generate, advance, terminate, takes, frees, wait_server, wait_terms, moves, assign, priority, split, counts, assemble, preempt, give_back, BlockModel, block_at, begins_group, State, Logged, set_turns, set_end, enters, go_on_lem, wake_ql, losers_to, interrupted_at, must_wait, begin_wait, question, fits, first_of_one, from_front, queue_remove, part_for, wake_for, check_wels, effect, take_units, preempting, gives_back, taking, answer, execute, waits_on, ws_scheme, turn, end_before_lem, idle, start, run_from, run, steps, records_at, server_numbers, queue_numbers, report_numbers, report_bytes_lem, accepted_run, ◌-◌, sym, ◌∙◌, Bool, true, false, share_units, set_moving, ql_of, units_of_lem, free_units}
use Rattle.machine.proofs as our
use our.Runs.RunLaws.{run_on, run-off, Taken, Before, before, taken_of}
use our.Decoding.WiderParsing.{with_rules}

-- the state in which the block of a turn is executed
abbrev pub taken_from : State → State
taken_from s = set_turns (suc s.turns) (taking s.moving s)

module _ (new : Rules) (m : BlockModel) where
  abbrev m' : BlockModel
  m' = with_rules new m

  -- ---- What reads no rules

  one_same : (l : List Transaction) → first_of_one m' l ≡ first_of_one m l
  unfolding first_of_one
  one_same [] = refl
  one_same (t ∷ l) = rw (one_same l)

  front_same : (b : ℕ) (l : List Transaction) → from_front m' b l ≡ from_front m b l
  unfolding from_front
  front_same b [] = refl
  front_same b (t ∷ l) = rw (front_same b l, front_same (b - units_of_lem m t) l)

  part_same : (x : Share) (w : View) (l : List Transaction) → part_for m' x w l ≡ part_for m x w l
  unfolding part_for queue_remove fits
  part_same (facility v) w l = refl
  part_same (storage v b) w l = rw (one_same l, front_same b l)

  wakes-same : (x : Share) (s : State) → wake_for m' x s ≡ wake_for m x s
  unfolding wake_for wake_ql
  wakes-same x s = rw (part_same x s.view (ql_of s (share_server x)))

  preempt-same : (l : List Event) (f : ℕ) (t : Transaction) (s : State)
      → preempting (λ f. f (enters t s)) (λ put. must_wait put t s) (λ f. f s) (λ put. begin_wait put t s) l m' f t s
      ≡ preempting (λ f. f (enters t s)) (λ put. must_wait put t s) (λ f. f s) (λ put. begin_wait put t s) l m f t s
  preempt-same [] f t s = refl
  preempt-same (e ∷ l) f t s = refl

  gives_same : (l : List Interrupted) (f : ℕ) (s : State) → gives_back m' l f s ≡ gives_back m l f s
  unfolding gives_back
  gives_same [] f s = wakes-same (facility f) (free_units f 1 s)
  gives_same (i ∷ l) f s = refl

  effect-same : (b : Block) (t : Transaction) (s : State) → effect m' b t s ≡ effect m b t s
  unfolding effect take_units begins_group
  effect-same (generate list p) t s = refl
  effect-same (advance list) t s = refl
  effect-same (terminate a) t s = refl
  effect-same (takes x) t s = refl
  effect-same (frees x) t s =
      ap (λ s. go_on_lem t (check_wels (share_server x) s)) (wakes-same x (free_units (share_server x) (share_units x) (enters t s)))
  effect-same (wait_server code v c) t s = refl
  effect-same (wait_terms a r b) t s = refl
  effect-same (moves c target) t s = refl
  effect-same (assign k a) t s = refl
  effect-same (priority p) t s = refl
  effect-same (split n target) t s = refl
  effect-same (counts c q) t s = refl
  effect-same (assemble n) t s = refl
  effect-same (preempt f) t s = preempt-same (losers_to t f s) f t s
  effect-same (give_back f) t s = ap (λ s. go_on_lem t (check_wels f s)) (gives_same (interrupted_at s f) f (enters t s))

  scheme-same : (s : State) → ws_scheme m' s ≡ ws_scheme m s
  unfolding ws_scheme waits_on
  scheme-same s = refl

  start-same : (tape : List (List ℕ)) → start m' tape ≡ start m tape
  unfolding start idle
  start-same tape = refl

  -- ---- The report

  servers-same : (records : List Logged) (v : ℕ) (l : List Server) → server_numbers m' records v l ≡ server_numbers m records v l
  unfolding server_numbers records_at
  servers-same records v [] = refl
  servers-same records v (x ∷ l) =
      ap (λ (k : List ℕ). records_at m 0 (λ f. eqb f.server v) records ∷ x.unit_ticks ∷ records_at m 1
      (λ f. eqb f.server v) records ∷ x.wait_ticks ∷ x.longest ∷ k)
      (servers-same records (suc v) l)

  queues-same : (records : List Logged) (q : ℕ) (l : List Queue) → queue_numbers m' records q l ≡ queue_numbers m records q l
  unfolding queue_numbers records_at
  queues-same records q [] = refl
  queues-same records q (x ∷ l) =
      ap (λ (k : List ℕ). records_at m 0 (λ f. eqb f.queue q) records ∷ x.content_ticks ∷ x.longest ∷ k) (queues-same records (suc q) l)

  pub accepted-same : (s : State) → accepted_run m' s ≡ accepted_run m s
  unfolding accepted_run report_bytes_lem report_numbers
  accepted-same s = rw (servers-same s.records 1 s.view.servers, queues-same s.records 1 s.view.queues)

  -- ---- The turn

  answer-same : (n : ℕ) (b : Block) (t : Transaction) (s : State) → answer n m' b t s ≡ answer n m b t s
  unfolding answer
  answer-same zero b t s = effect-same b t (set_moving none s)
  answer-same (suc n) b t s = refl

  -- whoever moves is answered alike
  abbrev pub AnsweredAlike : Option Transaction → State → Type 0
  AnsweredAlike none s = Unit {0}
  AnsweredAlike (some t) s = question m' (block_at m t.next) t s ≡ question m (block_at m t.next) t s

  execute-same : (o : Option Transaction) (s : State) → AnsweredAlike o s → execute o m' s ≡ execute o m s
  unfolding execute
  execute-same none s h = refl
  execute-same (some t) s h =
      let b = block_at m t.next in
      ap (λ n. answer n m' b t s) h ∙ answer-same (question m b t s) b t s

  -- of a turn only its question reads the rules
  pub turn-same : (s : State) → AnsweredAlike (taken_from s).moving (taken_from s) → turn m' s ≡ turn m s
  unfolding turn
  turn-same s h = ap (ws_scheme m') (execute-same _ _ h) ∙ scheme-same _

  -- ---- The run

  -- `Same` of a turn's outcome makes it the same turn, in states in which `I` holds; who has it now, had it before
  module _ (budget room : ℕ) (I Same : State → Type 0) (step : (s : State) → Taken budget room s → I s → I (turn m s))
      (same : (s : State) → Taken budget room s → I s → Same (turn m s) → turn m' s ≡ turn m s)
      (back : (s : State) → Taken budget room s → I s → Same (turn m s) → Same s)
      (close : (s : State) (e : ℕ) → Before budget room s e → (e ≡ 0 → ⊥) → Same (set_end e s) → Same s) where
    same-before : (n : ℕ) (s : State) → I s → Same (run_from n m budget room s) → Same s
    unfolding run_from
    same-before zero s i h = h
    same-before (suc n) s i h = go (eqb (end_before_lem budget room s) 0) refl (same-before n (turn m s))
      where
        go : (b : Bool) → eqb (end_before_lem budget room s) 0 ≡ b
            → (I (turn m s) → Same (run_from n m budget room (turn m s)) → Same (turn m s)) → Same s
        go true e k =
            let z : end_before_lem budget room s ≡ 0 = eqb-true _ _ e in
            let t : Taken budget room s = taken_of (before budget room s) z in
            back s t i (k (step s t i) (rw (run_on m budget room n s z) at h))
        go false e k =
            let z : (end_before_lem budget room s ≡ 0 → ⊥) = eqb-false _ _ e in
            close s _ (before budget room s) z (rw (run-off m budget room n s z) at h)

    run-from : (n : ℕ) (s : State) → I s → Same (run_from n m budget room s) → run_from n m' budget room s ≡ run_from n m budget room s
    unfolding run_from
    run-from zero s i h = refl
    run-from (suc n) s i h = go (eqb (end_before_lem budget room s) 0) refl (run-from n (turn m s))
      where
        go : (b : Bool) → eqb (end_before_lem budget room s) 0 ≡ b
            → (I (turn m s) → Same (run_from n m budget room (turn m s)) → run_from n m' budget room (turn m s) ≡ run_from n m budget room
            (turn m s))
            → run_from (suc n) m' budget room s ≡ run_from (suc n) m budget room s
        go true e k =
            let z : end_before_lem budget room s ≡ 0 = eqb-true _ _ e in
            let t : Taken budget room s = taken_of (before budget room s) z in
            let on = run_on m budget room n s z in
            let left : Same (run_from n m budget room (turn m s)) = rw on at h in
            run_on m' budget room n s z ∙ ap (run_from n m' budget room) (same s t i (same-before n (turn m s) (step s t i) left))
            ∙ k (step s t i) left ∙ sym on
        go false e k =
            let z : (end_before_lem budget room s ≡ 0 → ⊥) = eqb-false _ _ e in
            run-off m' budget room n s z ∙ sym (run-off m budget room n s z)

    -- any claim that turns keep may help to show that the questions are answered alike
    pub run-same : (tape : List (List ℕ)) → I (start m tape) → Same (run m tape budget room)
        → run m' tape budget room ≡ run m tape budget room
    unfolding run
    run-same tape i h = ap (run_from steps m' budget room) (start-same tape) ∙ run-from steps (start m tape) i h
