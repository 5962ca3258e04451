-- What each block gains: at most 255 serials, no more transactions than there is room for, at most one place of a queue.
use Rattle.machine.specs.All.{ℕ, zero, suc, ◌+◌, ◌-◌, ◌≤◌, ◌≡◌, refl, Bool, true, false, ◌&&◌, List, [], ◌∷◌, Option, arith, leb-true, leb, ltb, eqb, get_or, set, drop, map-set_same, get_or-drop, in_force, max_living, Transaction, Event, Gatherer, Interrupted, earlier, insert, nth, Queue, empty_queue, server_at, queue_at, compare, Code, Share, share_server, share_units, Block, generate, advance, terminate, takes, frees, wait_server, wait_terms, moves, assign, priority, split, counts, assemble, preempt, give_back, BlockModel, status, State, set_serial, set_moving, set_ended, set_gatherers, move_to, fresh, to_rel, to_fel, to_ql, to_wel, to_wsl, wake_ql, wake_first_wel, wake_wsl, set_use, set_content, times_left, arrival, copies, waits_for, to_gatherers, comes, released, losers_to, interrupt, resume, unless, ask_generate, question, check_wels, ends_one, delay, wake_for, gathers, gathering, taking_units, preempting, gives_back, ws_scheme}
use Rattle.machine.proofs.{Runs.Ahead.Ahead, Runs.Ahead.rising-insert, Runs.Ahead.rising-without, Runs.Kept.changed-most, Decoding.Proper.ProperBlock, Runs.RunLaws.cond_cases, Runs.Shape.each-get_or, Lists.Sorted.each-insert, Lists.Sorted.each_replace, Lists.Sorted.at_set, Runs.Clocks.Samples, Lists.Cases.check_wels-kept, Lists.Cases.ws_scheme-cases}
use Rattle.state.specs.All.{Bare, entering, going_back, beginning, waiting, bare}
use Rattle.state.proofs.Gains.{each_set, server_sums, queue_sums, more, Gains, gains_trans, gains-most}
use mathlib.Core.Path.{sym, ap, subst}
use mathlib.Core.List.{map}
use Rattle.machine.specs.Term.{idle_server, free}
use Rattle.machine.specs.Block.{facility, share_holder}
use Rattle.machine.specs.Setters.{with_serial}
use Rattle.machine.specs.Moves.{interrupted_at}
use Rattle.machine.specs.Execute.{living, changed}

-- ---- Moves that leave servers, queues and times

-- moves that change counts only: servers, queues, samples and the FEL stay
same-counts : (j k : ℕ) (s s' : State) → s'.view ≡ s.view → s'.samples ≡ s.samples → s'.fel ≡ s.fel → s'.turns ≡ s.turns
    → s'.records ≡ s.records
    → s'.written ≡ s.written → s'.counter ≤ s.counter → s'.made ≤ s.made + j → s.ended ≤ s'.ended
    → s'.made + s.serial ≤ s'.serial + s.made
    → s'.serial ≤ s.serial + k → Gains j k 0 s s'
same-counts j k s s' view samples fel turns records written counter made ended pace serials =
    record {
      clock = ap (λ w. w.clock) view;
      turns = turns;
      entries = ap (λ w. w.entries) view;
      records = records;
      written = written;
      counter = counter;
      made = made;
      ended = ended;
      pace = pace;
      serials = serials;
      samples = λ h list i. subst (λ (l : List (List ℕ)). get_or (nth l list []) i 0 ≤ in_force.max_time) (sym samples) (h list i);
      ahead = λ h. record { later = rw (fel, view) h.later; rising = rw fel h.rising };
      servers = ap (λ w. map server_sums w.servers) view;
      queues = ap (λ w. map queue_sums w.queues) view;
      contents = λ n h. rw view (more n 0 s.view.queues h);
    }

-- moves that change lists of waiters, REL, who moves and the end only
pub still : (s s' : State) → s'.view ≡ s.view → s'.counter ≡ s.counter → s'.samples ≡ s.samples → s'.fel ≡ s.fel
    → s'.serial ≡ s.serial
    → s'.made ≡ s.made → s'.ended ≡ s.ended → s'.turns ≡ s.turns → s'.records ≡ s.records → s'.written ≡ s.written
    → Gains 0 0 0 s s'
still s s' view counter samples fel serial made ended turns records written =
    same-counts 0 0 s s' view samples fel turns records written (omega arith) (omega arith) (omega arith) (omega arith) (omega arith)

pub gains-none : (s : State) → Gains 0 0 0 s s
gains-none s = still s s refl refl refl refl refl refl refl refl refl refl

gains-move_to : (n : ℕ) (t : Transaction) (s : State) → Gains 0 0 0 s (move_to n t s)
unfolding move_to
gains-move_to n t s = still s _ refl refl refl refl refl refl refl refl refl refl

gains-wake_first_wel : (v : ℕ) (code : Code) (s : State) → Gains 0 0 0 s (wake_first_wel v code s)
unfolding wake_first_wel
gains-wake_first_wel v code s = still s _ refl refl refl refl refl refl refl refl refl refl

gains-check_wels : (v : ℕ) (s : State) → Gains 0 0 0 s (check_wels v s)
gains-check_wels v s = check_wels-kept (Gains 0 0 0 s) v (λ code a g. gains_trans g (gains-wake_first_wel v code a)) s (gains-none s)

gains-wake_for : (m : BlockModel) (x : Share) (s : State) → Gains 0 0 0 s (wake_for m x s)
unfolding wake_for wake_ql
gains-wake_for m x s = still s _ refl refl refl refl refl refl refl refl refl refl

pub gains-ws_scheme : (m : BlockModel) (s : State) → Gains 0 0 0 s (ws_scheme m s)
unfolding wake_wsl
gains-ws_scheme m s =
    ws_scheme-cases (Gains 0 0 0 s) m s (λ e. still s _ refl refl refl refl refl refl refl refl refl refl) (λ e. gains-none s)

-- ---- Servers, queues, the end of one

gains_use : (v n holder : ℕ) (preempted : Bool) (s : State) → Gains 0 0 0 s (set_use v n holder preempted s)
unfolding set_use server_at
gains_use v n holder preempted s =
    record {
      clock = refl;
      turns = refl;
      entries = refl;
      records = refl;
      written = refl;
      counter = omega arith;
      made = omega arith;
      ended = omega arith;
      pace = omega arith;
      serials = omega arith;
      samples = λ h. h;
      ahead = λ h. record { later = h.later; rising = h.rising };
      servers = map-set_same server_sums s.view.servers (v - 1) _ (idle_server 0) refl;
      queues = refl;
      contents = λ n h. more n 0 s.view.queues h;
    }

gains-content : (q c : ℕ) (f : ℕ → ℕ) → ((x : ℕ) → f x ≤ x + c) → (s : State)
    → Gains 0 0 c s (set_content q (f (queue_at s.view q).content) s)
unfolding set_content queue_at empty_queue
gains-content q c f le s =
    record {
      clock = refl;
      turns = refl;
      entries = refl;
      records = refl;
      written = refl;
      counter = omega arith;
      made = omega arith;
      ended = omega arith;
      pace = omega arith;
      serials = omega arith;
      samples = λ h. h;
      ahead = λ h. record { later = h.later; rising = h.rising };
      servers = refl;
      queues = map-set_same queue_sums s.view.queues (q - 1) _ empty_queue refl;
      contents = λ n h.
          let old : (nth s.view.queues q empty_queue).content ≤ n =
          each-get_or (λ (x : Queue). x.content ≤ n) s.view.queues (q - 1) empty_queue h (omega arith) in
          each_set (λ (x : Queue). x.content ≤ n + c) s.view.queues (q - 1) _ (more n c s.view.queues h)
          (omega (arith, old, le (nth s.view.queues q empty_queue).content));
    }

gains-ends_one : (a : ℕ) (s : State) → Gains 0 0 0 s (ends_one a s)
unfolding ends_one
gains-ends_one a s =
    same-counts 0 0 s _ refl refl refl refl refl refl (omega arith) (omega arith) (omega arith) (omega arith) (omega arith)

-- ---- Serials, times and making

pub gains-to_rel : (t : Transaction) (s : State) → Gains 0 1 0 s (to_rel t s)
unfolding to_rel
gains-to_rel t s =
    same-counts 0 1 s _ refl refl refl refl refl refl (omega arith) (omega arith) (omega arith) (omega arith) (omega arith)

used-samples : (list : ℕ) (s : State) → Samples in_force.max_time s → (k i : ℕ)
    → get_or (nth (set s.samples (list - 1) (drop 1 (times_left s list))) k []) i 0 ≤ in_force.max_time
used-samples list s h k i =
    at_set (λ (q : List ℕ). get_or q i 0 ≤ in_force.max_time) s.samples (list - 1) (k - 1) _ []
    (λ e. subst (λ (x : ℕ). x ≤ in_force.max_time) (sym (get_or-drop 1 (times_left s list) i 0)) (h list (1 + i))) (h k i)

-- an event comes onto the FEL at or past the clock, with the time of a list used
timed : (j list : ℕ) (x : Event) (s s' : State) → s'.view ≡ s.view → s'.samples ≡ set s.samples (list - 1) (drop 1 (times_left s list))
    → s'.fel ≡ insert earlier x s.fel → s.view.clock ≤ x.time → s'.turns ≡ s.turns → s'.records ≡ s.records
    → s'.written ≡ s.written
    → s'.counter ≡ s.counter → s'.ended ≡ s.ended → s'.made ≡ s.made + j → s'.serial ≡ s.serial + 1 → j ≤ 1 → Gains j 1 0 s s'
timed j list x s s' view samples fel late turns records written counter ended made serial few =
    record {
      clock = ap (λ w. w.clock) view;
      turns = turns;
      entries = ap (λ w. w.entries) view;
      records = records;
      written = written;
      counter = omega arith;
      made = omega arith;
      ended = omega arith;
      pace = omega arith;
      serials = omega arith;
      samples = λ h k i. subst (λ (l : List (List ℕ)). get_or (nth l k []) i 0 ≤ in_force.max_time) (sym samples) (used-samples list s h k i);
      ahead = λ h.
          record {
            later = rw (fel, view) (each-insert (λ (e : Event). s.view.clock ≤ e.time) earlier x s.fel late h.later);
            rising = rw fel (rising-insert x s.fel h.rising);
          };
      servers = ap (λ w. map server_sums w.servers) view;
      queues = ap (λ w. map queue_sums w.queues) view;
      contents = λ n h. rw view (more n 0 s.view.queues h);
    }

pub gains-arrival : (l : List ℕ) (list p n : ℕ) (s : State) → Gains 1 1 0 s (arrival l list p n s)
unfolding arrival to_fel
gains-arrival [] list p n s = gains-most 1 1 0 (omega arith) (omega arith) (omega arith) (gains-none s)
gains-arrival (time ∷ l) list p n s =
    timed 1 list _ s _ refl refl refl (omega arith) refl refl refl refl refl (omega arith) (omega arith) (omega arith)

gains-delay : (l : List ℕ) (list : ℕ) (t : Transaction) (s : State) → Gains 0 1 0 s (delay l list t s)
unfolding delay to_fel
gains-delay [] list t s = gains-most 0 1 0 (omega arith) (omega arith) (omega arith) (gains-none s)
gains-delay (time ∷ l) list t s =
    timed 0 list _ s _ refl refl refl (omega arith) refl refl refl refl refl (omega arith) (omega arith) (omega arith)

gains-copies : (n target : ℕ) (t : Transaction) (s : State) → Gains n n 0 s (copies n target t s)
unfolding copies to_rel
gains-copies zero target t s = gains-none s
gains-copies (suc n) target t s =
    gains-most (suc n) (suc n) 0 (omega arith) (omega arith) (omega arith)
    (gains_trans (same-counts 1 1 s _ refl refl refl refl refl refl (omega arith) (omega arith) (omega arith) (omega arith) (omega arith))
    (gains-copies n target t _))

-- ---- Waiting

gains-fresh : (s : State) → Gains 0 1 0 s (set_serial (fresh s) s)
gains-fresh s =
    same-counts 0 1 s _ refl refl refl refl refl refl (omega arith) (omega arith) (omega arith) (omega arith) (omega arith)

gains-waiting : (put : Transaction → State → State) → ((t : Transaction) (s : State) → Gains 0 0 0 s (put t s))
    → (t : Transaction) (s : State)
    → Gains 0 1 0 s (waiting put t s).state
unfolding waiting
gains-waiting put puts t s =
    cond_cases (λ (b : Bare). Gains 0 1 0 s b.state) t.returning _ _
    (λ e. gains-most 0 1 0 (omega arith) (omega arith) (omega arith) (puts t s))
    (λ e. gains_trans (gains-fresh s) (puts (with_serial (fresh s) t) _))

gains_wait_ql : (edition v : ℕ) (t : Transaction) (s : State) → Gains 0 1 0 s (waiting (to_ql edition v) t s).state
unfolding to_ql
gains_wait_ql edition v = gains-waiting (to_ql edition v) (λ t s. still s _ refl refl refl refl refl refl refl refl refl refl)

gains_wait_wel : (edition v : ℕ) (code : Code) (t : Transaction) (s : State) → Gains 0 1 0 s (waiting (to_wel edition v code) t s).state
unfolding to_wel
gains_wait_wel edition v code = gains-waiting (to_wel edition v code) (λ t s. still s _ refl refl refl refl refl refl refl refl refl refl)

gains_wait_wsl : (t : Transaction) (s : State) → Gains 0 1 0 s (waiting to_wsl t s).state
unfolding to_wsl
gains_wait_wsl = gains-waiting to_wsl (λ t s. still s _ refl refl refl refl refl refl refl refl refl refl)

-- ---- Gathering

gains-gatherers : (l : List (List Gatherer)) (s : State) → Gains 0 0 0 s (set_gatherers l s)
gains-gatherers l s = still s _ refl refl refl refl refl refl refl refl refl refl

gains_gather : (t : Transaction) (s : State) → Gains 0 1 0 s (beginning to_gatherers t s).state
unfolding to_gatherers
gains_gather t s = gains_trans (gains-fresh s) (gains-gatherers _ (set_serial (fresh s) s))

gains-ended : (s : State) → Gains 0 0 0 s (set_ended (suc s.ended) s)
gains-ended s =
    same-counts 0 0 s _ refl refl refl refl refl refl (omega arith) (omega arith) (omega arith) (omega arith) (omega arith)

gains-gathers : (n : ℕ) (g : Gatherer) (t : Transaction) (s : State) → Gains 0 1 0 s (gathers n g t s)
unfolding gathers released comes
gains-gathers n g t s =
    cond_cases (Gains 0 1 0 s) (eqb (suc g.come) n) _ _
    (λ e. gains_trans (gains-ended s) (gains_trans (gains-gatherers _ (set_ended (suc s.ended) s)) (gains-to_rel _ _)))
    (λ e. gains-most 0 1 0 (omega arith) (omega arith) (omega arith)
    (gains_trans (gains-ended s) (gains-gatherers _ (set_ended (suc s.ended) s))))

-- ---- Interrupting

-- the FEL changes, in order and not before the clock; at most one serial is given
gains-fel : (k : ℕ) (s s' : State) → s'.view ≡ s.view → s'.samples ≡ s.samples → s'.turns ≡ s.turns → s'.records ≡ s.records
    → s'.written ≡ s.written
    → s'.counter ≡ s.counter → s'.made ≡ s.made → s'.ended ≡ s.ended → s'.serial ≡ s.serial + k → (Ahead s → Ahead s')
    → Gains 0 k 0 s s'
gains-fel k s s' view samples turns records written counter made ended serial ahead =
    record {
      clock = ap (λ w. w.clock) view;
      turns = turns;
      entries = ap (λ w. w.entries) view;
      records = records;
      written = written;
      counter = omega arith;
      made = omega arith;
      ended = omega arith;
      pace = omega arith;
      serials = omega arith;
      samples = λ h list i. subst (λ (l : List (List ℕ)). get_or (nth l list []) i 0 ≤ in_force.max_time) (sym samples) (h list i);
      ahead = ahead;
      servers = ap (λ w. map server_sums w.servers) view;
      queues = ap (λ w. map queue_sums w.queues) view;
      contents = λ n h. rw view (more n 0 s.view.queues h);
    }

gains-interrupt : (e : Event) (t : Transaction) (f : ℕ) (s : State) → Gains 0 0 0 s (interrupt e t f s)
unfolding interrupt
gains-interrupt e t f s =
    gains-fel 0 s _ refl refl refl refl refl refl refl refl (omega arith)
    (λ h.
    record {
      later = each_replace (λ (x : Event). s.view.clock ≤ x.time) _ [] s.fel tt h.later;
      rising = rising-without _ s.fel h.rising;
    })

gains-resume : (i : Interrupted) (f : ℕ) (s : State) → Gains 0 1 0 s (resume i f s)
unfolding resume to_fel
gains-resume i f s =
    gains-fel 1 s _ refl refl refl refl refl refl refl refl (omega arith)
    (λ h.
    record {
      later = each-insert (λ (x : Event). s.view.clock ≤ x.time) earlier _ s.fel (omega arith) h.later;
      rising = rising-insert _ s.fel h.rising;
    })

gains-gives_back : (m : BlockModel) (l : List Interrupted) (f : ℕ) (s : State) → Gains 0 1 0 s (gives_back m l f s)
unfolding gives_back
gains-gives_back m [] f s =
    gains-most 0 1 0 (omega arith) (omega arith) (omega arith)
    (gains_trans (gains_use f ((server_at s.view f).in_use - 1) 0 false s) (gains-wake_for m (facility f) _))
gains-gives_back m (i ∷ l) f s = gains_trans (gains_use f (server_at s.view f).in_use i.who.number false s) (gains-resume i f _)

-- ---- Each kind

-- a block's gains, where its question was answered with yes
pub record Moderate (s s' : State) : Type 0 where
  pub new : ℕ
  pub room : s.made - s.ended ≤ max_living → s.made - s.ended + new ≤ max_living
  pub gains : Gains new 255 1 s s'

moderate : {k c : ℕ} {s s' : State} → k ≤ 255 → c ≤ 1 → Gains 0 k c s s' → Moderate s s'
moderate hk hc g = record { new = 0; room = λ h. omega arith; gains = gains-most 0 255 1 (omega arith) hk hc g }

unless_yes : (b : Bool) (n later : ℕ) → unless b n later ≡ 0 → (n ≡ 0 → ⊥) → b ≡ true
unless_yes true n later e ne = refl
unless_yes false n later e ne = absurd (ne e)

on : {j k c : ℕ} (n : ℕ) (t : Transaction) {s s' : State} → Gains j k c s s' → Gains j k c s (move_to n t s')
on {j} {k} {c} n t g = gains-most j k c (omega arith) (omega arith) (omega arith) (gains_trans g (gains-move_to n t _))

generates : (m : BlockModel) (l : List ℕ) (list p n k : ℕ) (t : Transaction) (s : State) (o : Option Transaction)
    → ask_generate m l (set_moving o s) ≡ 0
    → Moderate s (move_to k t (arrival l list p n s))
unfolding ask_generate arrival
generates m [] list p n k t s o asked = moderate (omega arith) (omega arith) (gains-move_to k t s)
generates m (time ∷ l) list p n k t s o asked =
    record {
      new = 1;
      room = λ h. leb-true (living s + 1) max_living (unless_yes (leb (living s + 1) max_living) 21 _ asked (λ e. omega arith));
      gains = gains-most 1 255 1 (omega arith) (omega arith) (omega arith) (on k t (gains-arrival (time ∷ l) list p n s));
    }

takes_moderate : (m : BlockModel) (x : Share) (preempts : Bool) (t : Transaction) (s : State)
    → Moderate s
    (taking_units (λ f. entering (f s)) (λ put. waiting put t s) (λ f. going_back (f s)) (λ put. beginning put t s) m x preempts t s).state
takes_moderate m x preempts t s =
    let v : ℕ = share_server x in
    cond_cases (λ (r : Bare). Moderate s r.state) (leb (share_units x) (free (server_at s.view v))) _ _
    (λ e. moderate (omega arith) (omega arith)
    (on _ t
    (gains_trans (gains_use v ((server_at s.view v).in_use + share_units x) (share_holder x t.number) preempts s) (gains-check_wels v _))))
    (λ e. moderate (omega arith) (omega arith) (gains_wait_ql m.edition v t s))

-- no question asks who moves in the state
pub bare-gains : (m : BlockModel) (b : Block) (t : Transaction) (s : State) (o : Option Transaction) → ProperBlock m b
    → question m b t (set_moving o s) ≡ 0
    → Moderate s (bare m b t s).state
unfolding bare question
bare-gains m (generate list p) t s o ok asked = generates m _ list p _ _ t s o asked
bare-gains m (advance list) t s o ok asked = moderate (omega arith) (omega arith) (gains-delay _ list t s)
bare-gains m (terminate a) t s o ok asked = moderate (omega arith) (omega arith) (gains-ends_one a s)
bare-gains m (takes x) t s o ok asked = takes_moderate m x false t s
bare-gains m (frees x) t s o ok asked =
    moderate (omega arith) (omega arith)
    (on _ t
    (gains_trans (gains_use (share_server x) ((server_at s.view (share_server x)).in_use - share_units x) 0 false s)
    (gains_trans (gains-wake_for m x _) (gains-check_wels (share_server x) _))))
bare-gains m (wait_server code v c) t s o ok asked =
    cond_cases (λ (r : Bare). Moderate s r.state) (status code (server_at s.view v)) _ _
    (λ e. moderate (omega arith) (omega arith) (gains_wait_wel m.edition v code t s))
    (λ e.
    cond_cases (λ (r : Bare). Moderate s r.state) (ltb 0 c && ltb t.stamp s.view.clock) _ _
    (λ b. moderate (omega arith) (omega arith) (on _ t (gains-wake_first_wel v code s)))
    (λ b. moderate (omega arith) (omega arith) (on _ _ (gains-wake_first_wel v code s))))
bare-gains m (wait_terms a r b) t s o ok asked =
    cond_cases (λ (r : Bare). Moderate s r.state) (compare m.values s.view t.parameters a r b) _ _
    (λ e. moderate (omega arith) (omega arith) (gains_wait_wsl t s)) (λ e. moderate (omega arith) (omega arith) (gains-move_to _ t s))
bare-gains m (moves c target) t s o ok asked = moderate (omega arith) (omega arith) (gains-move_to _ t s)
bare-gains m (assign k a) t s o ok asked = moderate (omega arith) (omega arith) (gains-move_to _ _ s)
bare-gains m (priority p) t s o ok asked = moderate (omega arith) (omega arith) (gains-to_rel _ s)
bare-gains m (split n target) t s o ok asked =
    record {
      new = n;
      room = λ h. leb-true (living s + n) max_living (unless_yes (leb (living s + n) max_living) 21 0 asked (λ e. omega arith));
      gains = gains-most n 255 1 (omega arith) (omega arith) (omega arith) (on _ t (gains-copies n target t s));
    }
bare-gains m (counts c q) t s o ok asked =
    moderate (omega arith) (omega arith) (on _ t (gains-content q 1 (changed c) (changed-most c) s))
bare-gains m (assemble n) t s o ok asked = gathers_moderate (waits_for t s)
  where
    gathers_moderate : (l : List Gatherer)
        → Moderate s
        (gathering (λ f. entering (f s)) (λ put. waiting put t s) (λ f. going_back (f s)) (λ put. beginning put t s) l n t).state
    gathers_moderate [] = moderate (omega arith) (omega arith) (gains_gather t s)
    gathers_moderate (g ∷ l) = moderate (omega arith) (omega arith) (gains-gathers n g t s)
bare-gains m (preempt f) t s o ok asked = preempts_moderate (losers_to t f s)
  where
    preempts_moderate : (l : List Event)
        → Moderate s
        (preempting (λ f. entering (f s)) (λ put. waiting put t s) (λ f. going_back (f s)) (λ put. beginning put t s) l m f t s).state
    preempts_moderate [] = takes_moderate m (facility f) true t s
    preempts_moderate (e ∷ l) =
        moderate (omega arith) (omega arith)
        (on _ t (gains_trans (gains-interrupt e t f s) (gains_trans (gains_use f _ t.number true _) (gains-check_wels f _))))
bare-gains m (give_back f) t s o ok asked =
    moderate (omega arith) (omega arith) (on _ t (gains_trans (gains-gives_back m (interrupted_at s f) f s) (gains-check_wels f _)))
