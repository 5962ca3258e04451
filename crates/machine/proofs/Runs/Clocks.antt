-- The clock and every move time stay within the clock limit, and no serial on the FEL is above the last one given.
use Rattle.machine.specs.All.{ℕ, zero, suc, ◌+◌, ◌≤◌, ◌≡◌, refl, subst, Bool, true, false, ◌&&◌, List, [], ◌∷◌, Option, none, some, arith, leb-true, leb, eqb, get_or, get_or-drop, max_living, Transaction, Event, earlier, Interrupted, insert, nth, server_at, Code, Share, share_server, share_units, Block, generate, advance, terminate, takes, frees, wait_server, wait_terms, moves, assign, priority, split, counts, assemble, preempt, give_back, BlockModel, block_at, State, set_moving, log, enters, move_to, to_rel, to_fel, to_ql, to_wel, to_wsl, must_wait, wake_ql, wake_first_wel, wake_wsl, set_use, set_content, arrival, copies, to_gatherers, comes, released, interrupted_at, interrupt, resume, unless, living, ask_time, ask_generate, ask_advance, question, take_units, wake_for, check_wels, ends_one, delay, effect, ask_gives_back, ask_resume, arrive_all, move_clock, next_events, take_first, take_ready, taking, answer, execute, turn, idle, start_at, start, states, Each, ◌-◌, free, facility, times_left, ws_scheme}
use Rattle.machine.proofs as our
use our.{Decoding.Proper.Proper, Runs.RunLaws.each-state, Basic.Bools.cond_cases, Lists.Sorted.at_set}
use our.Basic.Each.{each_map, each-insert, each-those, each_replace}
use our.Lists.Cases.{check_wels-kept, wait_server-cases, wait_terms-cases, ws_scheme-cases, start_of-cases, assemble-cases, preempt-cases, give_back-cases}

-- ---- Definition

-- every serial on the FEL has been given
abbrev pub Given : State → Type 0
Given s = Each (λ (e : Event). e.who.serial ≤ s.serial) s.fel

-- the clock, every move time and all remaining ticks are at most `most`
pub record Timely (most : ℕ) (s : State) : Type 0 where
  pub clock : s.view.clock ≤ most
  pub times : Each (λ (e : Event). e.time ≤ most) s.fel
  -- what an interrupted one has left was once a time of the tape
  pub remaining : Each (λ (i : Interrupted). i.remaining ≤ most) s.interrupted
  pub serials : Given s

-- no sample is above `most`
abbrev pub Samples : ℕ → State → Type 0
Samples most s = (list i : ℕ) → get_or (nth s.samples list []) i 0 ≤ most

abbrev limit : BlockModel → ℕ
limit m = m.rules.max_clock

later : (n n' : ℕ) → n ≤ n' → (l : List Event) → Each (λ (e : Event). e.who.serial ≤ n) l → Each (λ (e : Event). e.who.serial ≤ n') l
later n n' le l h = each_map (λ e given. omega (arith, given)) l h

-- with one more, whose serial is fresh
pub with-fresh : (e : Event) (s : State) → e.who.serial ≤ suc s.serial → Each (λ (e : Event). e.who.serial ≤ s.serial) s.fel
    → Each (λ (e : Event). e.who.serial ≤ suc s.serial) (insert earlier e s.fel)
with-fresh e s le h =
    each-insert (λ (e : Event). e.who.serial ≤ suc s.serial) earlier e s.fel le
    (later s.serial (suc s.serial) (omega arith) s.fel h)

module _ {most : ℕ} where
  like : (s s' : State) → s'.view.clock ≡ s.view.clock → s'.fel ≡ s.fel → s'.interrupted ≡ s.interrupted → s.serial ≤ s'.serial
      → Timely most s → Timely most s'
  like s s' c f i le h =
      record {
        clock = rw c h.clock;
        times = rw f h.times;
        remaining = rw i h.remaining;
        serials = rw f (later s.serial s'.serial le s.fel h.serials);
      }

  -- ---- Moves

  to_fel-timely : (time : ℕ) (t : Transaction) (s : State) → time ≤ most → Timely most s → Timely most (to_fel time t s)
  unfolding to_fel
  to_fel-timely time t s le h =
      record {
        clock = h.clock;
        times = each-insert (λ (e : Event). e.time ≤ most) earlier _ s.fel le h.times;
        remaining = h.remaining;
        serials = with-fresh _ s (omega arith) h.serials;
      }

  waits-timely : (put : Transaction → State → State) → ((t : Transaction) (s : State) → Timely most s → Timely most (put t s))
      → (t : Transaction) (s : State)
      → Timely most s → Timely most (must_wait put t s)
  unfolding must_wait log
  waits-timely put kept t s h =
      cond_cases (Timely most) t.returning _ _ (λ e. kept t s h) (λ e. kept _ _ (like s _ refl refl refl (omega arith) h))

  to_ql-timely : (edition v : ℕ) (t : Transaction) (s : State) → Timely most s → Timely most (to_ql edition v t s)
  unfolding to_ql
  to_ql-timely edition v t s h = like s _ refl refl refl (omega arith) h

  to_wel-timely : (edition v : ℕ) (code : Code) (t : Transaction) (s : State) → Timely most s → Timely most (to_wel edition v code t s)
  unfolding to_wel
  to_wel-timely edition v code t s h = like s _ refl refl refl (omega arith) h

  to_wsl-timely : (t : Transaction) (s : State) → Timely most s → Timely most (to_wsl t s)
  unfolding to_wsl
  to_wsl-timely t s h = like s _ refl refl refl (omega arith) h

  wake-timely : (v : ℕ) (code : Code) (s : State) → Timely most s → Timely most (wake_first_wel v code s)
  unfolding wake_first_wel
  wake-timely v code s h = like s _ refl refl refl (omega arith) h

  check-timely : (v : ℕ) (s : State) → Timely most s → Timely most (check_wels v s)
  check-timely v s h = check_wels-kept (Timely most) v (wake-timely v) s h

  enters-timely : (t : Transaction) (s : State) → Timely most s → Timely most (enters t s)
  unfolding enters log
  enters-timely t s h = like s _ refl refl refl (omega arith) h

  moves-timely : (n : ℕ) (t : Transaction) (s : State) → Timely most s → Timely most (move_to n t s)
  unfolding move_to
  moves-timely n t s h = like s _ refl refl refl (omega arith) h

  units-timely : (v n holder : ℕ) (preempted : Bool) (s : State) → Timely most s → Timely most (set_use v n holder preempted s)
  unfolding set_use
  units-timely v n holder preempted s h = like s _ refl refl refl (omega arith) h

  takes-timely : (m : BlockModel) (x : Share) (preempts : Bool) (t : Transaction) (s : State) → Timely most s
      → Timely most (take_units m x preempts t s)
  unfolding take_units
  takes-timely m x preempts t s h =
      let v : ℕ = share_server x in
      cond_cases (Timely most) (leb (share_units x) (free (server_at s.view v))) _ _
      (λ e. moves-timely _ t _ (check-timely v _ (units-timely v _ _ _ _ (enters-timely t s h))))
      (λ e. waits-timely (to_ql m.edition v) (to_ql-timely m.edition v) t s h)

  copies-timely : (n target : ℕ) (t : Transaction) (s : State) → Timely most s → Timely most (copies n target t s)
  unfolding copies to_rel
  copies-timely zero target t s h = h
  copies-timely (suc n) target t s h = copies-timely n target t _ (like s _ refl refl refl (omega arith) h)

-- ---- Each kind, where its question was answered with yes

-- a question that answers 0 was answered yes, and so were those behind it
pub unless_yes : (b : Bool) (n later : ℕ) → unless b n later ≡ 0 → (n ≡ 0 → ⊥) → (b ≡ true) × (later ≡ 0)
unless_yes true n later e ne = (refl, e)
unless_yes false n later e ne = absurd (ne e)

module _ (m : BlockModel) where
  -- a move time whose question was answered
  time-asked : (time : ℕ) (s : State) → ask_time m time s ≡ 0 → s.view.clock + time ≤ limit m
  time-asked time s e = leb-true _ _ (unless_yes (leb (s.view.clock + time) (limit m)) 22 0 e (λ e. omega arith)).0

  generate-timely : (l : List ℕ) (list p n : ℕ) (s s' : State) → ask_generate m l s ≡ 0 → s'.view.clock ≡ s.view.clock
      → Timely (limit m) s'
      → Timely (limit m) (arrival l list p n s')
  unfolding ask_generate arrival
  generate-timely [] list p n s s' asked c h = h
  generate-timely (time ∷ l) list p n s s' asked c h =
      let room : ask_time m time s ≡ 0 = (unless_yes (leb (living s + 1) max_living) 21 _ asked (λ e. omega arith)).1 in
      to_fel-timely _ _ _ (omega (arith, time-asked time s room, c)) (like s' _ refl refl refl (omega arith) h)

  advance-timely : (l : List ℕ) (list : ℕ) (t : Transaction) (s s' : State) → ask_advance m l s ≡ 0 → s'.view.clock ≡ s.view.clock
      → Timely (limit m) s' → Timely (limit m) (delay l list t s')
  unfolding ask_advance delay
  advance-timely [] list t s s' asked c h = h
  advance-timely (time ∷ l) list t s s' asked c h =
      to_fel-timely _ _ _ (omega (arith, time-asked time s asked, c)) (like s' _ refl refl refl (omega arith) h)

  wake_for-timely : (x : Share) (s : State) → Timely (limit m) s → Timely (limit m) (wake_for m x s)
  unfolding wake_for wake_ql
  wake_for-timely x s h = like s _ refl refl refl (omega arith) h

  interrupt-timely : (e : Event) (t : Transaction) (f : ℕ) (s : State) → e.time ≤ limit m → Timely (limit m) s
      → Timely (limit m) (interrupt e t f s)
  unfolding interrupt
  interrupt-timely e t f s le h =
      record {
        clock = h.clock;
        times = each_replace (λ (e : Event). e.time ≤ limit m) _ [] s.fel tt h.times;
        remaining = each-insert (λ (i : Interrupted). i.remaining ≤ limit m) _ _ s.interrupted (omega arith) h.remaining;
        serials = each_replace (λ (e : Event). e.who.serial ≤ s.serial) _ [] s.fel tt h.serials;
      }

  resume-timely : (i : Interrupted) (f : ℕ) (s : State) → s.view.clock + i.remaining ≤ limit m → Timely (limit m) s
      → Timely (limit m) (resume i f s)
  unfolding resume
  resume-timely i f s le h =
      to_fel-timely _ _ _ le
      (record {
        clock = h.clock;
        times = h.times;
        remaining = each_replace (λ (i : Interrupted). i.remaining ≤ limit m) _ [] s.interrupted tt h.remaining;
        serials = h.serials;
      })

  -- where somebody gets the facility back, its move time was asked
  resume-asked : (f : ℕ) (t : Transaction) (s : State) (i : Interrupted) (l : List Interrupted) → interrupted_at s f ≡ i ∷ l
      → ask_gives_back m f t s ≡ 0
      → s.view.clock + i.remaining ≤ limit m
  unfolding ask_gives_back ask_resume
  resume-asked f t s i l e asked =
      time-asked i.remaining s
      (rw e at (unless_yes ((server_at s.view f).preempted && eqb (server_at s.view f).holder t.number) 27 _
      (unless_yes (leb 1 (server_at s.view f).in_use) 24 _ asked (λ e. omega arith)).1 (λ e. omega arith)).1)

  effect-timely : (b : Block) (t : Transaction) (s : State) → question m b t s ≡ 0 → Timely (limit m) s
      → Timely (limit m) (effect m b t (set_moving none s))
  unfolding effect question enters log set_content to_rel set_use ends_one take_units to_gatherers comes released
  effect-timely (generate list p) t s asked h =
      moves-timely _ t _ (generate-timely _ list p _ s _ asked refl (like s _ refl refl refl (omega arith) h))
  effect-timely (advance list) t s asked h = advance-timely _ list t s _ asked refl (like s _ refl refl refl (omega arith) h)
  effect-timely (terminate a) t s asked h = like s _ refl refl refl (omega arith) h
  effect-timely (takes x) t s asked h = takes-timely m x false t _ (like s _ refl refl refl (omega arith) h)
  effect-timely (frees x) t s asked h =
      moves-timely _ t _ (check-timely (share_server x) _ (wake_for-timely x _ (like s _ refl refl refl (omega arith) h)))
  effect-timely (wait_server code v c) t s asked h =
      wait_server-cases (Timely (limit m)) m code v c t (set_moving none s)
      (λ e. waits-timely (to_wel m.edition v code) (to_wel-timely m.edition v code) t _ (like s _ refl refl refl (omega arith) h))
      (λ e. moves-timely _ t _ (wake-timely v code _ (like s _ refl refl refl (omega arith) h)))
      (λ e. moves-timely _ _ _ (wake-timely v code _ (like s _ refl refl refl (omega arith) h)))
  effect-timely (wait_terms a r b) t s asked h =
      wait_terms-cases (Timely (limit m)) m a r b t (set_moving none s)
      (λ e. waits-timely to_wsl to_wsl-timely t _ (like s _ refl refl refl (omega arith) h))
      (λ e. moves-timely _ t _ (like s _ refl refl refl (omega arith) h))
  effect-timely (moves c target) t s asked h = moves-timely _ t _ (like s _ refl refl refl (omega arith) h)
  effect-timely (assign k a) t s asked h = moves-timely _ _ _ (like s _ refl refl refl (omega arith) h)
  effect-timely (priority p) t s asked h = like s _ refl refl refl (omega arith) h
  effect-timely (split n target) t s asked h = moves-timely _ t _ (copies-timely n target t _ (like s _ refl refl refl (omega arith) h))
  effect-timely (counts c q) t s asked h = moves-timely _ t _ (like s _ refl refl refl (omega arith) h)
  effect-timely (assemble n) t s asked h =
      assemble-cases (Timely (limit m)) m n t (set_moving none s) (λ e. like s _ refl refl refl (omega arith) h)
      (λ g l e z. like s _ refl refl refl (omega arith) h) (λ g l e z. like s _ refl refl refl (omega arith) h)
  effect-timely (preempt f) t s asked h =
      preempt-cases (Timely (limit m)) m f t (set_moving none s)
      (λ e. takes-timely m (facility f) true t _ (like s _ refl refl refl (omega arith) h))
      (λ x l e.
      moves-timely _ t _
      (check-timely f _
      (units-timely f _ _ _ _
      (interrupt-timely x t f _
      (subst (Each (λ (e : Event). e.time ≤ limit m)) e (each-those (λ (e : Event). e.time ≤ limit m) _ s.fel h.times)).0
      (like s _ refl refl refl (omega arith) h)))))
  effect-timely (give_back f) t s asked h =
      give_back-cases (Timely (limit m)) m f t (set_moving none s)
      (λ e. moves-timely _ t _ (check-timely f _ (wake_for-timely (facility f) _ (like s _ refl refl refl (omega arith) h))))
      (λ i l e. moves-timely _ t _
      (check-timely f _ (resume-timely i f _ (resume-asked f t s i l e asked) (like s _ refl refl refl (omega arith) h))))

-- ---- The turn

module _ {most : ℕ} where
  arrive_all-timely : (l : List Event) (s : State) → Timely most s → Timely most (arrive_all l s)
  unfolding arrive_all to_rel
  arrive_all-timely [] s h = h
  arrive_all-timely (e ∷ l) s h = arrive_all-timely l _ (like s _ refl refl refl (omega arith) h)

  next_events-timely : (l : List Event) (s : State) → Each (λ (e : Event). e.time ≤ most) l → Timely most s → Timely most (next_events l s)
  unfolding next_events move_clock
  next_events-timely [] s k h = h
  next_events-timely (e ∷ l) s k h =
      arrive_all-timely _ _
      (record {
        clock = k.0;
        times = each-those (λ (e : Event). e.time ≤ most) _ s.fel h.times;
        remaining = h.remaining;
        serials = each-those (λ (e : Event). e.who.serial ≤ s.serial) _ s.fel h.serials;
      })

  take_first-timely : (l : List Transaction) (s : State) → Timely most s → Timely most (take_first l s)
  unfolding take_first
  take_first-timely [] s h = h
  take_first-timely (t ∷ l) s h = like s _ refl refl refl (omega arith) h

  take_ready-timely : (l : List Transaction) (s : State) → Timely most s → Timely most (take_ready l s)
  unfolding take_ready
  take_ready-timely [] s h = take_first-timely _ _ (next_events-timely s.fel s h.times h)
  take_ready-timely (t ∷ l) s h = take_first-timely (t ∷ l) s h

  pub taking-timely : (o : Option Transaction) (s : State) → Timely most s → Timely most (taking o s)
  unfolding taking
  taking-timely none s h = take_ready-timely s.rel s h
  taking-timely (some t) s h = h

module _ (m : BlockModel) where
  answer-timely : (n : ℕ) (t : Transaction) (s : State) → question m (block_at m t.next) t s ≡ n → Timely (limit m) s
      → Timely (limit m) (answer n m (block_at m t.next) t s)
  unfolding answer
  answer-timely zero t s e h = effect-timely m (block_at m t.next) t s e h
  answer-timely (suc n) t s e h = like s _ refl refl refl (omega arith) h

  execute-timely : (o : Option Transaction) (s : State) → Timely (limit m) s → Timely (limit m) (execute o m s)
  unfolding execute
  execute-timely none s h = h
  execute-timely (some t) s h = answer-timely _ t s refl h

  ws-timely : (s : State) → Timely (limit m) s → Timely (limit m) (ws_scheme m s)
  unfolding wake_wsl
  ws-timely s h = ws_scheme-cases (Timely (limit m)) m s (λ e. like s _ refl refl refl (omega arith) h) (λ e. h)

  pub timely-turn : (s : State) → Timely (limit m) s → Timely (limit m) (turn m s)
  unfolding turn
  timely-turn s h =
      ws-timely _ (execute-timely _ _ (like (taking s.moving s) _ refl refl refl (omega arith) (taking-timely s.moving s h)))

-- ---- The start: the clock is 0 and no sample time is above the clock limit

module _ {most time-most : ℕ} (below : time-most ≤ most) where
  first-time : (l : List ℕ) (list p n : ℕ) (s : State) → get_or l 0 0 ≤ time-most → s.view.clock ≡ 0 → Timely most s
      → Timely most (arrival l list p n s) × ((arrival l list p n s).view.clock ≡ 0)
  unfolding arrival to_fel
  first-time [] list p n s le c h = (h, c)
  first-time (time ∷ l) list p n s le c h = (
    record {
      clock = h.clock;
      times = each-insert (λ (e : Event). e.time ≤ most) earlier _ s.fel (omega arith) h.times;
      remaining = h.remaining;
      serials = with-fresh _ s (omega arith) h.serials;
    },
    c,
  )

  samples-arrival : (l : List ℕ) (list p n : ℕ) (s : State) → Samples time-most s → Samples time-most (arrival l list p n s)
  unfolding arrival to_fel
  samples-arrival [] list p n s h = h
  samples-arrival (time ∷ l) list p n s h = λ k i.
      at_set (λ (q : List ℕ). get_or q i 0 ≤ time-most) s.samples (list - 1) (k - 1) _ []
      (λ e. rw (get_or-drop 1 (nth s.samples list []) i 0) (h list (1 + i))) (h k i)

  abbrev AtStart : State → Type 0
  AtStart s = Timely most s × (s.view.clock ≡ 0) × Samples time-most s

  arrival-at-start : (list p n : ℕ) (s : State) → AtStart s → AtStart (arrival (times_left s list) list p n s)
  arrival-at-start list p n s h =
      let k : Timely most (arrival (times_left s list) list p n s) × ((arrival (times_left s list) list p n s).view.clock ≡ 0) =
      first-time (times_left s list) list p n s (h.2 list 0) h.1 h.0 in
      (k.0, k.1, samples-arrival (times_left s list) list p n s h.2)

  start_at-timely : (n : ℕ) (l : List Block) (s : State) → AtStart s → AtStart (start_at n l s)
  unfolding start_at
  start_at-timely n [] s h = h
  start_at-timely n (b ∷ l) s h = start_at-timely (suc n) l _ (start_of-cases AtStart b n s (λ e. h) (λ e. arrival-at-start _ _ n s h))

module _ (m : BlockModel) (tape : List (List ℕ)) (proper : Proper m tape) (below : m.rules.max_time ≤ limit m) where
  pub timely-start : Timely (limit m) (start m tape)
  unfolding start idle
  timely-start =
      (start_at-timely below 1 m.blocks (idle m tape)
      (record { clock = omega arith; times = tt; remaining = tt; serials = tt }, refl, λ list i. proper.times (list - 1) i)).0

  pub timely : (budget room : ℕ) → Each (Timely (limit m)) (states m tape budget room)
  timely budget room =
      each-state m budget room (Timely (limit m)) (λ s t h. timely-turn m s h)
      (λ s e c h. record { clock = h.clock; times = h.times; remaining = h.remaining; serials = h.serials }) tape timely-start
