-- The WS scheme moves nobody where what a turn changed is read by no WAITIF: every comparison of the WSL held before the turn, and who
-- begins
-- to wait in it was judged by the same view.
use Rattle.machine.specs.All.{ℕ, zero, suc, ◌-◌, ◌≡◌, refl, sym, ap, ◌∙◌, subst, Bool, true, false, not, List, [], ◌∷◌, map, Option, none, some, not-true, not-false, leb, get_or, set, get_or-set_other, Transaction, Event, those, others, Server, Queue, idle_server, empty_queue, Term, Relation, compare, truth, Share, facility, share_server, share_units, Block, generate, advance, terminate, takes, frees, wait_server, wait_terms, moves, assign, priority, split, counts, assemble, preempt, give_back, facts, BlockModel, block_at, State, set_clock, set_view, set_turns, log, enters, move_to, to_rel, to_fel, to_ql, to_wel, to_wsl, must_wait, wake, wake_ql, wake_first_wel, wake_wsl, set_use, set_content, arrival, copies, to_gatherers, comes, released, interrupt, resume, take_units, wake_for, check_wels, ends_one, delay, effect, free_units, sample_queue, sample, arrive_all, move_clock, next_events, take_first, take_ready, taking, answer, execute, holds, waits_on, ws_scheme, turn, start, Each, Thing, the_clock, entry, queue, server, Watches, Spares, ap₂, server_at, free, with_serial, set_wsl, set_rel, set_moving, question, due}
use Rattle.machine.proofs as our
use our.{Basic.Bools.cond_cases, Basic.Taking.arrive_all-clock}
use our.Basic.Each.{each_map, each-insert, each-passes}
use our.Lists.Cases.{check_wels-kept, wait_server-cases, wait_terms-cases, assemble-cases, preempt-cases, give_back-cases, ws_scheme-cases}
use our.NobodyAble.WaitsKept.{sampled-alike, wsl-start}
use our.NobodyAble.Named.{Agrees, agrees-same, waits-same}

-- ---- After a turn all that wait on a comparison wait on one that holds

abbrev pub AllHold : BlockModel → State → Type 0
AllHold m s = Each (λ t. waits_on m s.view t ≡ true) s.wsl

abbrev leaves : BlockModel → State → Transaction → Bool
leaves m x t = not (waits_on m x.view t)

-- where the WS scheme ran
pub settled-turn : (m : BlockModel) (s : State) → (turn m s).end ≡ 0 → AllHold m (turn m s)
unfolding turn wake_wsl
settled-turn m s = settled (execute taken.moving m taken)
  where
    taken : State
    taken = set_turns (suc s.turns) (taking s.moving s)

    settled : (x : State) → (ws_scheme m x).end ≡ 0 → AllHold m (ws_scheme m x)
    settled x =
        ws_scheme-cases (λ y. y.end ≡ 0 → AllHold m y) m x
        (λ e z. each_map (λ t h. not-false _ (not-true _ h)) (others (leaves m x) x.wsl)
        (each-passes (λ t. not (leaves m x t)) x.wsl)) (λ n z. absurd (n z))

pub settled-start : (m : BlockModel) (tape : List (List ℕ)) → AllHold m (start m tape)
settled-start m tape = rw (wsl-start m tape) tt

-- ---- What changes nothing of a set of things

module _ (S : Thing → Type 0) (s₀ : State) where
  -- as in s₀, who waits on a comparison and what is in the set
  abbrev Still : State → Type 0
  Still s = (s.wsl ≡ s₀.wsl) × Agrees S s₀.view s.view

  enters-still : (t : Transaction) (s : State) → (S (entry (t.next - 1)) → ⊥) → Still s → Still (enters t s)
  unfolding enters log
  enters-still t s spared (e, a) = (
    e,
    record {
      clock = a.clock;
      entries =
          λ i h. a.entries i h
          ∙ sym (get_or-set_other s.view.entries (t.next - 1) i _ 0 (λ z. spared (subst (λ (n : ℕ). S (entry n)) z h)));
      contents = a.contents;
      capacities = a.capacities;
      in_use = a.in_use;
    },
  )

  set_use-still : (v n holder : ℕ) (preempted : Bool) (s : State) → (S (server (v - 1)) → ⊥) → Still s
      → Still (set_use v n holder preempted s)
  unfolding set_use
  set_use-still v n holder preempted s spared (e, a) = (
    e,
    record {
      clock = a.clock;
      entries = a.entries;
      contents = a.contents;
      capacities = λ i h. a.capacities i h ∙ ap (λ (x : Server). x.capacity) (other i h _);
      in_use = λ i h. a.in_use i h ∙ ap (λ (x : Server). x.in_use) (other i h _);
    },
  )
    where
      other : (i : ℕ) → S (server i) → (x : Server)
          → get_or s.view.servers i (idle_server 0) ≡ get_or (set s.view.servers (v - 1) x) i (idle_server 0)
      other i h x = sym (get_or-set_other s.view.servers (v - 1) i x (idle_server 0) (λ z. spared (rw z at h)))

  set_content-still : (q n : ℕ) (s : State) → (S (queue (q - 1)) → ⊥) → Still s → Still (set_content q n s)
  unfolding set_content
  set_content-still q n s spared (e, a) = (
    e,
    record {
      clock = a.clock;
      entries = a.entries;
      contents =
          λ i h.
          a.contents i h
          ∙ ap (λ (x : Queue). x.content)
          (sym (get_or-set_other s.view.queues (q - 1) i _ empty_queue (λ z. spared (subst (λ (n : ℕ). S (queue n)) z h))));
      capacities = a.capacities;
      in_use = a.in_use;
    },
  )

  arrival-still : (l : List ℕ) (list p n : ℕ) (s : State) → Still s → Still (arrival l list p n s)
  unfolding arrival to_fel
  arrival-still [] list p n s h = h
  arrival-still (x ∷ l) list p n s h = h

  copies-still : (n target : ℕ) (t : Transaction) (s : State) → Still s → Still (copies n target t s)
  unfolding copies to_rel
  copies-still zero target t s h = h
  copies-still (suc n) target t s h = copies-still n target t _ h

  delay-still : (l : List ℕ) (list : ℕ) (t : Transaction) (s : State) → Still s → Still (delay l list t s)
  unfolding delay to_fel
  delay-still [] list t s h = h
  delay-still (x ∷ l) list t s h = h

  check-still : (v : ℕ) (s : State) → Still s → Still (check_wels v s)
  unfolding wake_first_wel
  check-still v s h = check_wels-kept Still v (λ code s h. h) s h

  arrive_all-still : (l : List Event) (s : State) → Still s → Still (arrive_all l s)
  unfolding arrive_all to_rel
  arrive_all-still [] s h = h
  arrive_all-still (e ∷ l) s h = arrive_all-still l _ h

  -- ---- The taking

  -- statistics are not in any set
  sample-still : (time ticks : ℕ) (s : State) → (S the_clock → s₀.view.clock ≡ time) → Still s
      → Still (set_view (set_clock time (sample ticks s).view) s)
  unfolding sample
  sample-still time ticks s same (e, a) = (
    e,
    record {
      clock = same;
      entries = a.entries;
      contents = λ i h. a.contents i h ∙ content-sampled s.view.queues i;
      capacities = λ i h. a.capacities i h ∙ sym (sampled-alike ticks s.view.servers s.ql i (idle_server 0)).0;
      in_use = λ i h. a.in_use i h ∙ sym (sampled-alike ticks s.view.servers s.ql i (idle_server 0)).1;
    },
  )
    where
      content-sampled : (l : List Queue) (i : ℕ) → (get_or l i empty_queue).content ≡ (get_or (map (sample_queue ticks) l) i empty_queue).content
      content-sampled [] i = refl
      content-sampled (q ∷ l) zero = unfold sample_queue in refl
      content-sampled (q ∷ l) (suc i) = content-sampled l i

  take_first-still : (l : List Transaction) (s : State) → (S the_clock → s₀.view.clock ≡ (take_first l s).view.clock)
      → ((S the_clock → s₀.view.clock ≡ s.view.clock) → Still s) → Still (take_first l s)
  unfolding take_first
  take_first-still [] s same h = h same
  take_first-still (t ∷ l) s same h = h same

  next_events-still : (l : List Event) (s : State) → Still s → (S the_clock → s₀.view.clock ≡ (next_events l s).view.clock)
      → Still (next_events l s)
  unfolding next_events move_clock
  next_events-still [] s h same = h
  next_events-still (e ∷ l) s h same =
      arrive_all-still (those (due e.time) s.fel) _
      (sample-still e.time _ s (λ c. same c ∙ arrive_all-clock (those (due e.time) s.fel) _) h)

  take_ready-still : (l : List Transaction) (s : State) → Still s → (S the_clock → s₀.view.clock ≡ (take_ready l s).view.clock)
      → Still (take_ready l s)
  unfolding take_ready
  take_ready-still [] s h same = take_first-still _ _ same (next_events-still s.fel s h)
  take_ready-still (t ∷ l) s h same = take_first-still (t ∷ l) s same (λ c. h)

  taking-still : (o : Option Transaction) (s : State) → Still s → (S the_clock → s₀.view.clock ≡ (taking o s).view.clock)
      → Still (taking o s)
  unfolding taking
  taking-still none s h same = take_ready-still s.rel s h same
  taking-still (some t) s h same = h

-- ---- The block

-- who moves, if somebody does, executes a block that changes nothing of the set
abbrev pub MoverSpares : (Thing → Type 0) → BlockModel → Option Transaction → Type 0
MoverSpares S m none = Unit {0}
MoverSpares S m (some t) = (S (entry (t.next - 1)) → ⊥) × Spares S (block_at m t.next)

module _ (S : Thing → Type 0) (m : BlockModel) (watches : Watches S m) (s₀ : State) (hold : AllHold m s₀) where
  still_hold : (s : State) → Still S s₀ s → AllHold m s
  still_hold s (e, a) =
      rw e (each_map (λ t h. sym (waits-same S m watches s₀.view s.view a t) ∙ h) s₀.wsl hold)

  module _ (t : Transaction) (s : State) (still : Still S s₀ s) (entry-spared : S (entry (t.next - 1)) → ⊥) where
    entered : Still S s₀ (enters t s)
    entered = enters-still S s₀ t s entry-spared still

    take_units-still : (x : Share) (preempts : Bool) → (S (server (share_server x - 1)) → ⊥) → Still S s₀ (take_units m x preempts t s)
    unfolding take_units move_to must_wait log to_ql
    take_units-still x preempts spared =
        cond_cases (Still S s₀) (leb (share_units x) (free (server_at s.view (share_server x)))) _ _
        (λ e. check-still S s₀ (share_server x) _ (set_use-still S s₀ (share_server x) _ _ _ (enters t s) spared entered))
        (λ e. cond_cases (Still S s₀) t.returning _ _ (λ c. still) (λ c. still))

    frees-still : (x : Share) → (S (server (share_server x - 1)) → ⊥)
        → Still S s₀ (check_wels (share_server x) (wake_for m x (free_units (share_server x) (share_units x) (enters t s))))
    unfolding wake_for wake_ql
    frees-still x spared = check-still S s₀ (share_server x) _ (set_use-still S s₀ (share_server x) _ _ _ (enters t s) spared entered)

    seized-still : (f : ℕ) → (S (server (f - 1)) → ⊥) → Still S s₀ (take_units m (facility f) true t s)
    unfolding share_server
    seized-still f spared = take_units-still (facility f) true spared

    released-still : (f : ℕ) → (S (server (f - 1)) → ⊥) → Still S s₀ (check_wels f (wake_for m (facility f) (free_units f 1 (enters t s))))
    unfolding share_server share_units
    released-still f spared = frees-still (facility f) spared

    -- who waits for the comparison to end joins, and it held
    joins : (a : Term) (r : Relation) (b : Term) → block_at m t.next ≡ wait_terms a r b
        → compare m.values s.view t.parameters a r b ≡ true
        → AllHold m (must_wait to_wsl t s)
    unfolding must_wait to_wsl log waits_on facts holds truth
    joins a r b e holds =
        cond_cases (AllHold m) t.returning _ _ (λ c. each-insert _ _ t s.wsl waits (still_hold s still))
        (λ c. each-insert _ _ (with_serial (suc s.serial) t) s.wsl waits (still_hold s still))
      where
        waits : waits_on m s.view t ≡ true
        waits = rw e holds

    effect_hold : (b : Block) → block_at m t.next ≡ b → Spares S b → AllHold m (effect m b t s)
    unfolding effect take_units move_to must_wait log to_wel wake_first_wel to_rel ends_one to_gatherers comes released interrupt resume to_fel
    effect_hold (generate list p) e k = still_hold (effect m (generate list p) t s) (arrival-still S s₀ _ list p _ (enters t s) entered)
    effect_hold (advance list) e k = still_hold (effect m (advance list) t s) (delay-still S s₀ _ list t (enters t s) entered)
    effect_hold (terminate a) e k = still_hold (effect m (terminate a) t s) entered
    effect_hold (takes x) e k = still_hold (effect m (takes x) t s) (take_units-still x false k)
    effect_hold (frees x) e k = still_hold (effect m (frees x) t s) (frees-still x k)
    effect_hold (wait_server code v c) e k =
        still_hold (effect m (wait_server code v c) t s)
        (wait_server-cases (Still S s₀) m code v c t s (λ w. cond_cases (Still S s₀) t.returning _ _ (λ h. still) (λ h. still))
        (λ h. still) (λ h. entered))
    effect_hold (wait_terms a r b) e k =
        wait_terms-cases (AllHold m) m a r b t s (λ c. joins a r b e c) (λ c. still_hold (enters t s) entered)
    effect_hold (moves c target) e k = still_hold (effect m (moves c target) t s) entered
    effect_hold (assign i a) e k = still_hold (effect m (assign i a) t s) entered
    effect_hold (priority p) e k = still_hold (effect m (priority p) t s) entered
    effect_hold (split n target) e k = still_hold (effect m (split n target) t s) (copies-still S s₀ n target t (enters t s) entered)
    effect_hold (counts c q) e k = still_hold (effect m (counts c q) t s) (set_content-still S s₀ q _ (enters t s) k entered)
    effect_hold (assemble n) e k =
        still_hold (effect m (assemble n) t s) (assemble-cases (Still S s₀) m n t s (λ c. still) (λ g l c z. entered) (λ g l c z. entered))
    effect_hold (preempt f) e k =
        still_hold (effect m (preempt f) t s)
        (preempt-cases (Still S s₀) m f t s (λ c. seized-still f k)
        (λ x l c. check-still S s₀ f _ (set_use-still S s₀ f _ _ _ (interrupt x t f (enters t s)) k entered)))
    effect_hold (give_back f) e k =
        still_hold (effect m (give_back f) t s)
        (give_back-cases (Still S s₀) m f t s (λ c. released-still f k)
        (λ i l c. check-still S s₀ f _ (set_use-still S s₀ f _ _ _ (enters t s) k entered)))

  answer_hold : (n : ℕ) (t : Transaction) (s : State) → Still S s₀ s → MoverSpares S m (some t)
      → AllHold m (answer n m (block_at m t.next) t s)
  unfolding answer
  answer_hold zero t s still (spared, k) = effect_hold t (set_moving none s) still spared (block_at m t.next) refl k
  answer_hold (suc n) t s still k = still_hold s still

  execute_hold : (o : Option Transaction) (s : State) → Still S s₀ s → MoverSpares S m o → AllHold m (execute o m s)
  unfolding execute
  execute_hold none s still k = still_hold s still
  execute_hold (some t) s still k = answer_hold (question m (block_at m t.next) t s) t s still k

-- ---- The scheme

-- nobody goes where all comparisons hold
none-leave : {A : Type 0} (p : A → Bool) (l : List A) → Each (λ x. p x ≡ true) l → those (λ x. not (p x)) l ≡ []
unfolding those
none-leave p [] h = refl
none-leave p (x ∷ l) h = rw h.0 (none-leave p l h.1)

all_stay : {A : Type 0} (p : A → Bool) (l : List A) → Each (λ x. p x ≡ true) l → those (λ x. not (not (p x))) l ≡ l
unfolding those
all_stay p [] h = refl
all_stay p (x ∷ l) h = rw h.0 (ap (λ (k : List _). x ∷ k) (all_stay p l h.1))

-- where every comparison of the WSL holds the WS scheme wakes nobody, and the state is as it was
pub scheme-idle : (m : BlockModel) (s : State) → AllHold m s → ws_scheme m s ≡ s
unfolding wake_wsl wake
scheme-idle m s h =
    ws_scheme-cases (λ x. x ≡ s) m s
    (λ e. ap₂ (λ (go stay : List Transaction). set_wsl stay (set_rel (wake go s.rel) s)) (none-leave (waits_on m s.view) s.wsl h)
    (all_stay (waits_on m s.view) s.wsl h)) (λ n. refl)

-- a turn whose changes no WAITIF reads
pub scheme-unread : (S : Thing → Type 0) (m : BlockModel) → Watches S m → (s : State) → AllHold m s
    → let taken : State = set_turns (suc s.turns) (taking s.moving s) in
    (S the_clock → s.view.clock ≡ taken.view.clock) → MoverSpares S m taken.moving
    → ws_scheme m (execute taken.moving m taken) ≡ execute taken.moving m taken
scheme-unread S m watches s hold same spares =
    scheme-idle m _
    (execute_hold S m watches s hold _ _ (taking-still S s s.moving s (refl, agrees-same S s.view) same) spares)
