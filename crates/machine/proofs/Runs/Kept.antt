-- One walk through a turn for every claim that concerns the moved transactions little: what the single changes of a state keep, a
-- turn and the start keep.
use Rattle.machine.specs.All.{ℕ, zero, suc, ◌+◌, ◌≤◌, Bool, true, false, not, ◌&&◌, ◌||◌, List, [], ◌∷◌, Option, none, some, arith, leb-true, T, eqb, leb, set, max_living, Transaction, Event, Gatherer, Interrupted, Queue, server_at, free, Code, Share, facility, storage, share_server, share_units, Change, up, down, Block, generate, advance, terminate, takes, frees, wait_server, wait_terms, moves, assign, priority, split, counts, assemble, preempt, give_back, BlockModel, State, Logged, set_clock, set_entries, set_queues, set_view, set_counter, set_samples, set_ql, set_wel, set_wsl, set_rel, set_fel, set_gatherers, set_interrupted, set_moving, set_serial, set_made, set_ended, set_turns, set_records, set_written, set_end, log, enters, move_to, to_rel, to_fel, to_ql, to_wel, to_wsl, begin_wait, must_wait, wake_ql, wake_first_wel, wake_wsl, set_use, set_holder, set_content, arrival, copies, to_gatherers, comes, released, interrupt, resume, unless, living, ask_generate, ask_advance, ask_content, ask_ends, ask_holder, held, ask_gathers, ask_resume, ask_gives_back, changed, question, take_units, wake_for, check_wels, ends_one, delay, effect, free_units, sample, arrive_all, move_clock, next_events, take_first, take_ready, taking, answer, execute, ws_scheme, turn, start_at, idle, start, stated_end, queue_at, block_at, times_left, waits_for, interrupted_at}
use Rattle.machine.proofs as our
use our.Basic.Bools.{cond_cases}
use our.Lists.Cases.{check_wels-kept, wait_server-cases, wait_terms-cases, assemble-cases, preempt-cases, give_back-cases, ws_scheme-cases, start_of-cases}

-- ---- Definition

-- no end, or one of the stated ends
abbrev pub Stop : ℕ → Type 0
Stop n = T (eqb n 0 || stated_end n)

pub record Closed (Q : State → Type 0) : Type 0 where
  pub entries : (i n : ℕ) (s : State) → Q s → Q (set_view (set_entries (set s.view.entries i n) s.view) s)
  pub queues : (i : ℕ) (q : Queue) (s : State) → Q s → Q (set_view (set_queues (set s.view.queues i q) s.view) s)
  -- units in use: at most the capacity, where they were before; any holder
  pub units : (v n holder : ℕ) (preempted : Bool) (s : State)
      → ((server_at s.view v).in_use ≤ (server_at s.view v).capacity → n ≤ (server_at s.view v).capacity)
      → Q s → Q (set_use v n holder preempted s)
  pub clock : (time ticks : ℕ) (s : State) → Q s → Q (set_view (set_clock time (sample ticks s).view) s)
  pub ql : (i : ℕ) (l : List Transaction) (s : State) → Q s → Q (set_ql (set s.ql i l) s)
  pub wel : (i : ℕ) (l : List Transaction) (s : State) → Q s → Q (set_wel (set s.wel i l) s)
  pub samples : (i : ℕ) (l : List ℕ) (s : State) → Q s → Q (set_samples (set s.samples i l) s)
  pub wsl : (l : List Transaction) (s : State) → Q s → Q (set_wsl l s)
  pub rel : (l : List Transaction) (s : State) → Q s → Q (set_rel l s)
  pub fel : (l : List Event) (s : State) → Q s → Q (set_fel l s)
  pub gatherers : (i : ℕ) (l : List Gatherer) (s : State) → Q s → Q (set_gatherers (set s.gatherers i l) s)
  pub interrupted : (l : List Interrupted) (s : State) → Q s → Q (set_interrupted l s)
  pub moving : (o : Option Transaction) (s : State) → Q s → Q (set_moving o s)
  pub serial : (n : ℕ) (s : State) → Q s → Q (set_serial n s)
  pub counter : (n : ℕ) (s : State) → Q s → Q (set_counter n s)
  pub made : (n : ℕ) (s : State) → Q s → Q (set_made n s)
  pub ended : (n : ℕ) (s : State) → Q s → Q (set_ended n s)
  -- a record, and how many bytes are written with it
  pub written : (n : ℕ) (r : Logged) (s : State) → Q s → Q (set_written n (set_records (r ∷ s.records) s))
  pub stop : (n : ℕ) (s : State) → Stop n → Q s → Q (set_end n s)

-- ---- The answers of the questions

unless-stops : (b : Bool) (n later : ℕ) → Stop n → Stop later → Stop (unless b n later)
unless-stops true n later h k = k
unless-stops false n later h k = h

ask-generate : (m : BlockModel) (l : List ℕ) (s : State) → Stop (ask_generate m l s)
unfolding ask_generate
ask-generate m [] s = tt
ask-generate m (x ∷ l) s =
    unless-stops (leb (living s + 1) max_living) 21 _ tt (unless-stops (leb (s.view.clock + x) m.rules.max_clock) 22 0 tt tt)

ask-advance : (m : BlockModel) (l : List ℕ) (s : State) → Stop (ask_advance m l s)
unfolding ask_advance
ask-advance m [] s = tt
ask-advance m (x ∷ l) s = unless-stops (leb (s.view.clock + x) m.rules.max_clock) 22 0 tt tt

ask-content : (c : Change) (n : ℕ) → Stop (ask_content c n)
unfolding ask_content
ask-content up n = tt
ask-content down n = unless-stops (leb 1 n) 25 0 tt tt

-- one more at most
pub changed-most : (c : Change) (n : ℕ) → changed c n ≤ n + 1
unfolding changed
changed-most up n = omega arith
changed-most down n = omega arith

ask-holder : (m : BlockModel) (x : Share) (t : Transaction) (s : State) → Stop (ask_holder m x t s)
unfolding ask_holder
ask-holder m (facility v) t s =
    unless-stops (not (server_at s.view v).preempted) 27 _ tt
    (unless-stops (not m.rules.holders || eqb (server_at s.view v).holder t.number) 27 0 tt tt)
ask-holder m (storage v b) t s = tt

ask-ends : (m : BlockModel) (t : Transaction) (s : State) → Stop (ask_ends m t s)
ask-ends m t s = unless-stops (not m.rules.holders || eqb (held m s.view t.number) 0) 28 0 tt tt

ask-gathers : (m : BlockModel) (l : List Gatherer) (t : Transaction) (s : State) → Stop (ask_gathers m l t s)
unfolding ask_gathers
ask-gathers m [] t s = tt
ask-gathers m (g ∷ l) t s = ask-ends m t s

ask-resume : (m : BlockModel) (l : List Interrupted) (s : State) → Stop (ask_resume m l s)
unfolding ask_resume
ask-resume m [] s = tt
ask-resume m (i ∷ l) s = unless-stops (leb (s.view.clock + i.remaining) m.rules.max_clock) 22 0 tt tt

ask-gives_back : (m : BlockModel) (f : ℕ) (t : Transaction) (s : State) → Stop (ask_gives_back m f t s)
unfolding ask_gives_back
ask-gives_back m f t s =
    unless-stops (leb 1 (server_at s.view f).in_use) 24 _ tt
    (unless-stops ((server_at s.view f).preempted && eqb (server_at s.view f).holder t.number) 27 _ tt
    (ask-resume m (interrupted_at s f) s))

-- a question answers 0 or one of the ends that are stated for it
pub question-stops : (m : BlockModel) (b : Block) (t : Transaction) (s : State) → Stop (question m b t s)
unfolding question
question-stops m (generate list p) t s = ask-generate m (times_left s list) s
question-stops m (advance list) t s = ask-advance m (times_left s list) s
question-stops m (terminate a) t s = ask-ends m t s
question-stops m (takes x) t s = tt
question-stops m (frees x) t s = unless-stops (leb (share_units x) (server_at s.view (share_server x)).in_use) 24 _ tt (ask-holder m x t s)
question-stops m (wait_server code v c) t s = tt
question-stops m (wait_terms a r b) t s = tt
question-stops m (moves c target) t s = tt
question-stops m (assign k a) t s = tt
question-stops m (priority p) t s = tt
question-stops m (split n target) t s = unless-stops (leb (living s + n) max_living) 21 0 tt tt
question-stops m (counts c q) t s = ask-content c (queue_at s.view q).content
question-stops m (assemble n) t s = ask-gathers m (waits_for t s) t s
question-stops m (preempt f) t s = tt
question-stops m (give_back f) t s = ask-gives_back m f t s

-- ---- Every part of a turn

module _ (Q : State → Type 0) (C : Closed Q) where
  pub enters-kept : (t : Transaction) (s : State) → Q s → Q (enters t s)
  unfolding enters log
  enters-kept t s h = C.written _ _ _ (C.entries _ _ s h)

  pub wake_first_wel-kept : (v : ℕ) (code : Code) (s : State) → Q s → Q (wake_first_wel v code s)
  unfolding wake_first_wel
  wake_first_wel-kept v code s h = C.wel _ _ _ (C.rel _ s h)

  pub check-kept : (v : ℕ) (s : State) → Q s → Q (check_wels v s)
  check-kept v s h = check_wels-kept Q v (wake_first_wel-kept v) s h

  -- coming to REL before block n, whoever it is
  pub goes_on : (n : ℕ) (t : Transaction) (s : State) → Q s → Q (move_to n t s)
  unfolding move_to
  goes_on n t s h = C.moving _ s h

  pub must_wait-kept : (put : Transaction → State → State) → ((t : Transaction) (s : State) → Q s → Q (put t s))
      → (t : Transaction) (s : State)
      → Q s → Q (must_wait put t s)
  unfolding must_wait log
  must_wait-kept put kept t s h = cond_cases Q t.returning _ _ (λ e. kept t s h) (λ e. kept _ _ (C.serial _ _ (C.written _ _ s h)))

  pub to_ql-kept : (edition v : ℕ) (t : Transaction) (s : State) → Q s → Q (to_ql edition v t s)
  unfolding to_ql
  to_ql-kept edition v t s h = C.ql _ _ s h

  pub to_wel-kept : (edition v : ℕ) (code : Code) (t : Transaction) (s : State) → Q s → Q (to_wel edition v code t s)
  unfolding to_wel
  to_wel-kept edition v code t s h = C.wel _ _ s h

  pub to_wsl-kept : (t : Transaction) (s : State) → Q s → Q (to_wsl t s)
  unfolding to_wsl
  to_wsl-kept t s h = C.wsl _ s h

  pub to_rel-kept : (t : Transaction) (s : State) → Q s → Q (to_rel t s)
  unfolding to_rel
  to_rel-kept t s h = C.rel _ _ (C.serial _ s h)

  pub take_units-kept : (m : BlockModel) (x : Share) (preempts : Bool) (t : Transaction) (s : State) → Q s → Q (take_units m x preempts t s)
  unfolding take_units enters log server_at
  take_units-kept m x preempts t s h =
      cond_cases Q (leb b (free (server_at s.view v))) _ _
      (λ e.
      let fits : b ≤ free (server_at s.view v) = leb-true _ _ e in
      goes_on _ t _ (check-kept v _ (C.units v _ _ _ (enters t s) (λ w. more fits w) (enters-kept t s h))))
      (λ e. must_wait-kept (to_ql m.edition v) (to_ql-kept m.edition v) t s h)
    where
      v : ℕ
      v = share_server x

      b : ℕ
      b = share_units x

      more : b ≤ free (server_at s.view v) → (server_at s.view v).in_use ≤ (server_at s.view v).capacity
          → (server_at s.view v).in_use + b ≤ (server_at s.view v).capacity
      more fits w = omega arith

  pub arrival-kept : (l : List ℕ) (list p n : ℕ) (s : State) → Q s → Q (arrival l list p n s)
  unfolding arrival to_fel
  arrival-kept [] list p n s h = h
  arrival-kept (x ∷ l) list p n s h = C.fel _ _ (C.serial _ _ (C.made _ _ (C.samples _ _ s h)))

  pub copies_kept : (n target : ℕ) (t : Transaction) (s : State) → Q s → Q (copies n target t s)
  unfolding copies
  copies_kept zero target t s h = h
  copies_kept (suc n) target t s h = copies_kept n target t _ (to_rel-kept _ _ (C.made _ s h))

  pub delay-kept : (l : List ℕ) (list : ℕ) (t : Transaction) (s : State) → Q s → Q (delay l list t s)
  unfolding delay to_fel
  delay-kept [] list t s h = h
  delay-kept (x ∷ l) list t s h = C.fel _ _ (C.serial _ _ (C.samples _ _ s h))

  pub free_units-kept : (v b : ℕ) (s : State) → Q s → Q (free_units v b s)
  free_units-kept v b s h = C.units v _ _ _ s (λ w. omega arith) h

  pub ends_one-kept : (a : ℕ) (s : State) → Q s → Q (ends_one a s)
  unfolding ends_one
  ends_one-kept a s h = C.stop _ _ (cond_cases Stop (leb s.counter a) 2 0 (λ e. tt) (λ e. tt)) (C.counter _ _ (C.ended _ s h))

  pub wake_for-kept : (m : BlockModel) (x : Share) (s : State) → Q s → Q (wake_for m x s)
  unfolding wake_for wake_ql
  wake_for-kept m x s h = C.ql _ _ _ (C.rel _ s h)

  pub to_gatherers-kept : (t : Transaction) (s : State) → Q s → Q (to_gatherers t s)
  unfolding to_gatherers
  to_gatherers-kept t s h = C.gatherers _ _ s h

  pub begins-kept : (t : Transaction) (s : State) → Q s → Q (begin_wait to_gatherers t s)
  unfolding log
  begins-kept t s h = to_gatherers-kept _ _ (C.serial _ _ (C.written _ _ s h))

  pub comes-kept : (g : Gatherer) (t : Transaction) (s : State) → Q s → Q (comes g t s)
  unfolding comes
  comes-kept g t s h = C.gatherers _ _ s h

  pub released-kept : (g : Gatherer) (t : Transaction) (s : State) → Q s → Q (released g t s)
  unfolding released
  released-kept g t s h = to_rel-kept _ _ (C.gatherers _ _ s h)

  pub set_holder-kept : (f holder : ℕ) (preempted : Bool) (s : State) → Q s → Q (set_holder f holder preempted s)
  set_holder-kept f holder preempted s h = C.units f _ holder preempted s (λ w. w) h

  pub interrupt-kept : (e : Event) (t : Transaction) (f : ℕ) (s : State) → Q s → Q (interrupt e t f s)
  unfolding interrupt
  interrupt-kept e t f s h = C.interrupted _ _ (C.fel _ s h)

  pub resume-kept : (i : Interrupted) (f : ℕ) (s : State) → Q s → Q (resume i f s)
  unfolding resume to_fel
  resume-kept i f s h = C.fel _ _ (C.serial _ _ (C.interrupted _ s h))

  -- the walk: of each kind the changes of the state that it is made of
  pub effect-kept : (m : BlockModel) (b : Block) (t : Transaction) (s : State) → Q s → Q (effect m b t s)
  unfolding effect set_content take_units
  effect-kept m (generate list p) t s h = goes_on _ t _ (arrival-kept _ list p _ _ (enters-kept t s h))
  effect-kept m (advance list) t s h = delay-kept _ list t _ (enters-kept t s h)
  effect-kept m (terminate a) t s h = ends_one-kept a _ (enters-kept t s h)
  effect-kept m (takes x) t s h = take_units-kept m x false t s h
  effect-kept m (frees x) t s h =
      goes_on _ t _
      (check-kept (share_server x) _ (wake_for-kept m x _ (free_units-kept (share_server x) (share_units x) _ (enters-kept t s h))))
  effect-kept m (wait_server code v c) t s h =
      wait_server-cases Q m code v c t s (λ e. must_wait-kept (to_wel m.edition v code) (to_wel-kept m.edition v code) t s h)
      (λ e. goes_on _ t _ (wake_first_wel-kept v code s h))
      (λ e. goes_on _ _ _ (wake_first_wel-kept v code _ (enters-kept t s h)))
  effect-kept m (wait_terms a r b) t s h =
      wait_terms-cases Q m a r b t s (λ e. must_wait-kept to_wsl to_wsl-kept t s h) (λ e. goes_on _ t _ (enters-kept t s h))
  effect-kept m (moves c target) t s h = goes_on _ t _ (enters-kept t s h)
  effect-kept m (assign k a) t s h = goes_on _ _ _ (enters-kept t s h)
  effect-kept m (priority p) t s h = to_rel-kept _ _ (enters-kept t s h)
  effect-kept m (split n target) t s h = goes_on _ t _ (copies_kept n target t _ (enters-kept t s h))
  effect-kept m (counts c q) t s h = goes_on _ t _ (C.queues _ _ _ (enters-kept t s h))
  effect-kept m (assemble n) t s h =
      assemble-cases Q m n t s (λ e. begins-kept t s h) (λ g l e z. released-kept g t _ (C.ended _ _ (enters-kept t s h)))
      (λ g l e z. comes-kept g t _ (C.ended _ _ (enters-kept t s h)))
  effect-kept m (preempt f) t s h =
      preempt-cases Q m f t s (λ e. take_units-kept m (facility f) true t s h)
      (λ x l e. goes_on _ t _ (check-kept f _ (set_holder-kept f _ _ _ (interrupt-kept x t f _ (enters-kept t s h)))))
  effect-kept m (give_back f) t s h =
      give_back-cases Q m f t s
      (λ e. goes_on _ t _ (check-kept f _ (wake_for-kept m (facility f) _ (free_units-kept f 1 _ (enters-kept t s h)))))
      (λ i l e. goes_on _ t _ (check-kept f _ (resume-kept i f _ (set_holder-kept f _ _ _ (enters-kept t s h)))))

  pub arrive_all-kept : (l : List Event) (s : State) → Q s → Q (arrive_all l s)
  unfolding arrive_all
  arrive_all-kept [] s h = h
  arrive_all-kept (e ∷ l) s h = arrive_all-kept l _ (to_rel-kept _ s h)

  pub move_clock-kept : (time : ℕ) (s : State) → Q s → Q (move_clock time s)
  unfolding move_clock
  move_clock-kept time s h = arrive_all-kept _ _ (C.fel _ _ (C.clock time _ s h))

  pub next_events-kept : (l : List Event) (s : State) → Q s → Q (next_events l s)
  unfolding next_events
  next_events-kept [] s h = h
  next_events-kept (e ∷ l) s h = move_clock-kept e.time s h

  pub take_first-kept : (l : List Transaction) (s : State) → Q s → Q (take_first l s)
  unfolding take_first
  take_first-kept [] s h = h
  take_first-kept (t ∷ l) s h = C.moving _ _ (C.rel _ s h)

  pub take_ready-kept : (l : List Transaction) (s : State) → Q s → Q (take_ready l s)
  unfolding take_ready
  take_ready-kept [] s h = take_first-kept _ _ (next_events-kept s.fel s h)
  take_ready-kept (t ∷ l) s h = take_first-kept (t ∷ l) s h

  pub taking-kept : (o : Option Transaction) (s : State) → Q s → Q (taking o s)
  unfolding taking
  taking-kept none s h = take_ready-kept s.rel s h
  taking-kept (some t) s h = h

  answer-kept : (n : ℕ) → Stop n → (m : BlockModel) (b : Block) (t : Transaction) (s : State) → Q s → Q (answer n m b t s)
  unfolding answer
  answer-kept zero stops m b t s h = effect-kept m b t _ (C.moving none s h)
  answer-kept (suc n) stops m b t s h = C.stop (suc n) s stops h

  pub execute-kept : (m : BlockModel) (o : Option Transaction) (s : State) → Q s → Q (execute o m s)
  unfolding execute
  execute-kept m none s h = h
  execute-kept m (some t) s h = answer-kept _ (question-stops m (block_at m t.next) t s) m _ t s h

  pub wake_wsl-kept : (p : Transaction → Bool) (s : State) → Q s → Q (wake_wsl p s)
  unfolding wake_wsl
  wake_wsl-kept p s h = C.wsl _ _ (C.rel _ s h)

  pub ws_scheme-kept : (m : BlockModel) (s : State) → Q s → Q (ws_scheme m s)
  ws_scheme-kept m s h = ws_scheme-cases Q m s (λ e. wake_wsl-kept _ s h) (λ e. h)

  pub start_at-kept : (n : ℕ) (l : List Block) (s : State) → Q s → Q (start_at n l s)
  unfolding start_at
  start_at-kept n [] s h = h
  start_at-kept n (b ∷ l) s h = start_at-kept (suc n) l _ (start_of-cases Q b n s (λ e. h) (λ e. arrival-kept _ _ _ n s h))

  pub start-kept : (m : BlockModel) (tape : List (List ℕ)) → Q (idle m tape) → Q (start m tape)
  unfolding start
  start-kept m tape h = start_at-kept 1 m.blocks _ h

-- of a claim that may change as the turn is counted
pub turn-kept : (P Q : State → Type 0) → Closed P → Closed Q → (m : BlockModel) (s : State)
    → ((s' : State) → P s' → Q (set_turns (suc s.turns) s')) → P s → Q (turn m s)
unfolding turn
turn-kept P Q C D m s counted h = ws_scheme-kept Q D m _ (execute-kept Q D m _ _ (counted _ (taking-kept P C s.moving s h)))
