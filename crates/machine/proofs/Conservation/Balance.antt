-- Conservation: of every weight f of transaction numbers, what stands on the machine's lists, what is moving and what has ended
-- weigh together as much as the numbers 1..made. Every turn keeps it.
use Rattle.machine.specs.All.{ℕ, zero, suc, ◌+◌, ◌*◌, ◌-◌, ◌≤◌, ◌<◌, ◌≡◌, refl, ap, ◌∙◌, true, Bool, false, cond, not, ◌&&◌, List, [], ◌∷◌, Option, none, some, arith, eqb, leb, length, take, drop, length-set, Transaction, Event, Gatherer, precedes, earlier, newborn, Interrupted, insert, those, replace_first, flat, server_at, Code, Share, facility, share_server, share_units, Block, generate, advance, terminate, takes, frees, wait_server, wait_terms, moves, assign, priority, split, counts, assemble, preempt, give_back, facts, BlockModel, block_at, wel_index, State, Logged, with_serial, with_priority, with_returning, with_stamp, with_next, set_serial, set_moving, set_ended, record_of, log, enters, move_to, fresh, to_rel, to_fel, ql_of, wel_of, line_up, to_ql, to_wel, to_wsl, must_wait, Parted, wake_ql, wake_first_wel, wake_wsl, set_use, set_content, use_time, arrival, copies, gatherers_at, in_family, waits_for, to_gatherers, comes, released, losers_to, interrupted_at, interrupt, resume, set_holder, ask_advance, question, take_units, part_for, wake_for, check_wels, ends_one, delay, effect, free_units, arrive_all, due, move_clock, next_events, take_first, take_ready, taking, answer, execute, waits_on, ws_scheme, turn, start_at, idle, start, up_to, terminates, free, times_left, of_facility, loses_to}
use Rattle.machine.proofs as our
use our.Decoding.Proper.{Proper, ProperBlock, Names, servers, code-server, share-server}
use our.{Basic.Bools.cond_cases, Runs.Kept.taking-kept, Basic.Taking.next_events-moving}
use our.Lists.Cases.{check_wels-kept, wait_server-cases, wait_terms-cases, assemble-cases, ws_scheme-cases, start_of-cases, preempt-cases, give_back-cases}
use our.Runs.Shape.{Shape, shape_closed, ql-at, wel-at, wel-below, gatherers-at}
use our.Lists.Sums.{sum_on, sum-insert, sum-those, sum_replace, sum_first, sum-flat-set, sum-flat-none, sum-wake}
use our.Lists.Lines.{Whole, sum-line_up, sum-part_for}

module _ (m : BlockModel) (tape : List (List ℕ)) (f : ℕ → ℕ) where
  -- ---- Definition

  abbrev pub by : Transaction → ℕ
  by t = f t.number

  abbrev by_who : Gatherer → ℕ
  by_who g = by g.who

  abbrev by_one : Interrupted → ℕ
  by_one i = by i.who

  abbrev pub listed : State → ℕ
  listed s =
      sum_on by (flat s.ql) + sum_on by (flat s.wel) + sum_on by s.wsl + sum_on by s.rel + sum_on (λ e. by e.who)
      s.fel + sum_on by_who (flat s.gatherers)
      + sum_on by_one s.interrupted

  abbrev pub held : Option Transaction → ℕ
  held none = 0
  held (some t) = by t

  -- those that ended, by their records
  abbrev pub gone : List Logged → ℕ
  gone records = sum_on (λ r. cond (terminates m tape r) (f r.entry.transaction) 0) records

  -- with x in hand
  abbrev pub Weighs : ℕ → State → Type 0
  Weighs x s = x + listed s + gone s.records ≡ up_to s.made f

  abbrev pub Balanced : State → Type 0
  Balanced s = Weighs (held s.moving) s

  -- ---- Moves

  module _ (x : ℕ) where
    -- a record that ends nobody
    weighs-log : (outcome : ℕ) (t : Transaction) (s : State) → (eqb outcome 0 && eqb (facts (block_at m t.next)).terminates 1) ≡ false
        → Weighs x s
        → Weighs x (log outcome t s)
    unfolding log record_of
    weighs-log outcome t s e w = omega (arith, ap (λ b. cond b (f t.number) 0) e)

    weighs-enters : (t : Transaction) (s : State) → (facts (block_at m t.next)).terminates ≡ 0 → Weighs x s → Weighs x (enters t s)
    unfolding enters
    weighs-enters t s e w = weighs-log 0 t _ (ap (λ n. eqb n 1) e) w

    weighs-to_rel : (t : Transaction) (s : State) → Weighs (by t + x) s → Weighs x (to_rel t s)
    unfolding to_rel
    weighs-to_rel t s w = omega (arith, sum-insert by precedes (with_serial (fresh s) t) s.rel)

    weighs-to_fel : (time : ℕ) (t : Transaction) (s : State) → Weighs (by t + x) s → Weighs x (to_fel time t s)
    unfolding to_fel
    weighs-to_fel time t s w =
        omega (
          arith,
          sum-insert (λ e. by e.who) earlier (record { time = time; who = with_stamp time (with_serial (fresh s) t) }) s.fel,
        )

    weighs-to_ql : (edition v : ℕ) (t : Transaction) (s : State) → v - 1 < length s.ql → Weighs (by t + x) s
        → Weighs x (to_ql edition v t s)
    unfolding to_ql
    weighs-to_ql edition v t s at w =
        omega (arith, sum-flat-set by s.ql (v - 1) (line_up edition t (ql_of s v)) at, sum-line_up by edition t (ql_of s v))

    weighs-to_wel : (edition v : ℕ) (code : Code) (t : Transaction) (s : State) → wel_index v code < length s.wel → Weighs (by t + x) s
        → Weighs x (to_wel edition v code t s)
    unfolding to_wel
    weighs-to_wel edition v code t s at w =
        omega (
          arith,
          sum-flat-set by s.wel (wel_index v code) (line_up edition t (wel_of s v code)) at,
          sum-line_up by edition t (wel_of s v code),
        )

    weighs-to_wsl : (t : Transaction) (s : State) → Weighs (by t + x) s → Weighs x (to_wsl t s)
    unfolding to_wsl
    weighs-to_wsl t s w = omega (arith, sum-insert by precedes t s.wsl)

    -- ---- Gathering

    weighs-to_gatherers : (t : Transaction) (s : State) → t.next - 1 < length s.gatherers → Weighs (by t + x) s
        → Weighs x (to_gatherers t s)
    unfolding to_gatherers
    weighs-to_gatherers t s at w =
        let before : Gatherer → Gatherer → Bool = λ a b. precedes a.who b.who in
        let g : Gatherer = record { who = t; come = 1 } in
        omega (
          arith,
          sum-flat-set by_who s.gatherers (t.next - 1) (insert before g (gatherers_at s t.next)) at,
          sum-insert by_who before g (gatherers_at s t.next),
        )

    module _ (t : Transaction) (s : State) (g : Gatherer) (l : List Gatherer) (e : waits_for t s ≡ g ∷ l)
        (at : t.next - 1 < length s.gatherers) where
      weighs-comes : Weighs x s → Weighs x (comes g t s)
      unfolding comes
      weighs-comes w =
          let more : List Gatherer = record { who = g.who; come = suc g.come } ∷ [] in
          omega (
            arith,
            sum-flat-set by_who s.gatherers (t.next - 1) (replace_first (in_family t) more (gatherers_at s t.next)) at,
            sum_replace by_who (in_family t) more (gatherers_at s t.next) g l e,
          )

      weighs-released : Weighs x s → Weighs x (released g t s)
      unfolding released
      weighs-released w =
          weighs-to_rel _ _
          (omega (
            arith,
            sum-flat-set by_who s.gatherers (t.next - 1) (replace_first (in_family t) [] (gatherers_at s t.next)) at,
            sum_replace by_who (in_family t) [] (gatherers_at s t.next) g l e,
          ))

    -- ---- Interrupted ones

    weighs-interrupt : (e : Event) (l : List Event) (t : Transaction) (f : ℕ) (s : State) → losers_to t f s ≡ e ∷ l → Weighs x s
        → Weighs x (interrupt e t f s)
    unfolding interrupt
    weighs-interrupt e l t f s q w =
        let before : Interrupted → Interrupted → Bool = λ a b. precedes a.who b.who in
        let left : ℕ = e.time - s.view.clock in
        omega (
          arith,
          sum_replace (λ (e : Event). by e.who) (loses_to t (server_at s.view f)) [] s.fel e l q,
          sum-insert by_one before (record { who = with_stamp left e.who; facility = f; remaining = left }) s.interrupted,
        )

    weighs-resume : (i : Interrupted) (l : List Interrupted) (f : ℕ) (s : State) → interrupted_at s f ≡ i ∷ l → Weighs x s
        → Weighs x (resume i f s)
    unfolding resume
    weighs-resume i l f s q w = weighs-to_fel _ i.who _ (omega (arith, sum_replace by_one (of_facility f) [] s.interrupted i l q))

    -- ---- Waking

    weighs-wake_ql : (part : List Transaction → Parted) (v : ℕ) (s : State) → Whole by part (ql_of s v) → v - 1 < length s.ql → Weighs x s
        → Weighs x (wake_ql part v s)
    unfolding wake_ql
    weighs-wake_ql part v s whole at w =
        omega (
          arith,
          sum-flat-set by s.ql (v - 1) (part (ql_of s v)).stay at,
          sum-wake by (λ t. refl) (part (ql_of s v)).go s.rel,
        )

    weighs-wake_first_wel : (v : ℕ) (code : Code) (s : State) → wel_index v code < length s.wel → Weighs x s
        → Weighs x (wake_first_wel v code s)
    unfolding wake_first_wel
    weighs-wake_first_wel v code s at w =
        omega (
          arith,
          sum-flat-set by s.wel (wel_index v code) (drop 1 (wel_of s v code)) at,
          sum_first by (wel_of s v code),
          sum-wake by (λ t. refl) (take 1 (wel_of s v code)) s.rel,
        )

    weighs-wake_wsl : (p : Transaction → Bool) (s : State) → Weighs x s → Weighs x (wake_wsl p s)
    unfolding wake_wsl
    weighs-wake_wsl p s w = omega (arith, sum-those by p s.wsl, sum-wake by (λ t. refl) (those p s.wsl) s.rel)

    -- waking from a WEL loses nobody as long as there are six lists a server
    weighs-check_wels : (v : ℕ) (s : State) → 1 ≤ v → v ≤ servers m → length s.wel ≡ servers m * 6 → Weighs x s → Weighs x (check_wels v s)
    unfolding wake_first_wel
    weighs-check_wels v s low high n w =
        (check_wels-kept (λ s. (length s.wel ≡ servers m * 6) × Weighs x s) v
        (λ code s k. (
          length-set s.wel (wel_index v code) _ ∙ k.0,
          weighs-wake_first_wel v code s (rw k.0 (wel-below v code (servers m) low high)) k.1,
        )) s (n, w)).1

    -- ---- Making

    weighs-arrival : (l : List ℕ) (list p n : ℕ) (s : State) → Weighs x s → Weighs x (arrival l list p n s)
    unfolding arrival newborn up_to
    weighs-arrival [] list p n s w = w
    weighs-arrival (time ∷ l) list p n s w = weighs-to_fel _ (newborn (suc s.made) p n) _ (omega arith)

    weighs-copies : (n target : ℕ) (t : Transaction) (s : State) → Weighs x s → Weighs x (copies n target t s)
    unfolding copies up_to
    weighs-copies zero target t s w = w
    weighs-copies (suc n) target t s w = weighs-copies n target t _ (weighs-to_rel _ _ (omega arith))

  -- ---- The taking

  weighs-arrive_all : (x : ℕ) (l : List Event) (s : State) → Weighs (sum_on (λ e. by e.who) l + x) s → Weighs x (arrive_all l s)
  unfolding arrive_all
  weighs-arrive_all x [] s w = omega arith
  weighs-arrive_all x (e ∷ l) s w = weighs-arrive_all x l _ (weighs-to_rel (sum_on (λ e. by e.who) l + x) _ s (omega arith))

  weighs-next_events : (x : ℕ) (l : List Event) (s : State) → Weighs x s → Weighs x (next_events l s)
  unfolding next_events move_clock
  weighs-next_events x [] s w = w
  weighs-next_events x (e ∷ l) s w =
      weighs-arrive_all x (those (due e.time) s.fel) _ (omega (arith, sum-those (λ e. by e.who) (due e.time) s.fel))

  balanced-take_first : (l : List Transaction) (s : State) → s.rel ≡ l → s.moving ≡ none → Weighs 0 s → Balanced (take_first l s)
  unfolding take_first
  balanced-take_first [] s e n w = rw n w
  balanced-take_first (t ∷ l) s e n w = omega (arith, ap (sum_on by) e)

  balanced-take_ready : (l : List Transaction) (s : State) → s.rel ≡ l → s.moving ≡ none → Weighs 0 s → Balanced (take_ready l s)
  unfolding take_ready
  balanced-take_ready [] s e n w =
      balanced-take_first _ _ refl (next_events-moving s.fel s ∙ n) (weighs-next_events 0 s.fel s w)
  balanced-take_ready (t ∷ l) s e n w = balanced-take_first (t ∷ l) s e n w

  pub balanced-taking : (o : Option Transaction) (s : State) → s.moving ≡ o → Balanced s → Balanced (taking o s)
  unfolding taking
  balanced-taking none s e w = balanced-take_ready s.rel s refl e (rw e at w)
  balanced-taking (some t) s e w = w

  -- ---- One block

  module _ (t : Transaction) (s : State) (w : Weighs (by t) s) where
    -- nobody is moving
    abbrev idle-hand : State
    idle-hand = set_moving none s

    -- the state in which a new waiter is put on its list, and who that is
    abbrev waits : State
    waits = set_serial (fresh idle-hand) (log 1 t idle-hand)

    abbrev waiter : Transaction
    waiter = with_serial (fresh idle-hand) t

    in-hand : Weighs (by t + 0) idle-hand
    in-hand = omega arith

    noted : Weighs (by t + 0) (log 1 t idle-hand)
    noted = weighs-log (by t + 0) 1 t idle-hand refl in-hand

    -- at a block that is no TERMINATE
    module _ (plain : (facts (block_at m t.next)).terminates ≡ 0) where
      balanced_wait_ql : (v : ℕ) → v - 1 < length s.ql → Balanced (must_wait (to_ql m.edition v) t idle-hand)
      unfolding must_wait to_ql log
      balanced_wait_ql v at =
          cond_cases Balanced t.returning _ _ (λ e. weighs-to_ql 0 m.edition v t idle-hand at in-hand)
          (λ e. weighs-to_ql 0 m.edition v waiter waits at noted)

      balanced_wait_wel : (v : ℕ) (code : Code) → wel_index v code < length s.wel
          → Balanced (must_wait (to_wel m.edition v code) t idle-hand)
      unfolding must_wait to_wel log
      balanced_wait_wel v code at =
          cond_cases Balanced t.returning _ _ (λ e. weighs-to_wel 0 m.edition v code t idle-hand at in-hand)
          (λ e. weighs-to_wel 0 m.edition v code waiter waits at noted)

      balanced_wait_wsl : Balanced (must_wait to_wsl t idle-hand)
      unfolding must_wait to_wsl log
      balanced_wait_wsl =
          cond_cases Balanced t.returning _ _ (λ e. weighs-to_wsl 0 t idle-hand in-hand)
          (λ e. weighs-to_wsl 0 waiter waits noted)

      entered : Weighs (by t) (enters t idle-hand)
      entered = weighs-enters (by t) t idle-hand plain w

      balanced-take_units : (x : Share) (preempts : Bool) → Names (servers m) (share_server x) → Shape m s
          → Balanced (take_units m x preempts t idle-hand)
      unfolding take_units move_to set_use enters log
      balanced-take_units x preempts at h =
          cond_cases Balanced (leb (share_units x) (free (server_at s.view (share_server x)))) _ _
          (λ e. weighs-check_wels (by t) (share_server x) _ at.0 at.1 h.wel-length entered)
          (λ e. balanced_wait_ql (share_server x) (ql-at h (share_server x) at.0 at.1))

      -- units given back, and then one or some of the QL woken
      balanced-frees : (x : Share) → Names (servers m) (share_server x) → Shape m s
          → Weighs (by t) (check_wels (share_server x) (wake_for m x (free_units (share_server x) (share_units x) (enters t idle-hand))))
      unfolding wake_for wake_ql set_use enters log
      balanced-frees x at h =
          let v : ℕ = share_server x in
          let freed : State = free_units v (share_units x) (enters t idle-hand) in
          weighs-check_wels (by t) v (wake_for m x freed) at.0 at.1 h.wel-length
          (weighs-wake_ql (by t) (part_for m x freed.view) v freed (sum-part_for by m x freed.view (ql_of s v))
          (ql-at h v at.0 at.1) entered)

      balanced-wait_server : (code : Code) (v c : ℕ) → 1 ≤ v → v ≤ servers m → Shape m s
          → Balanced (effect m (wait_server code v c) t idle-hand)
      unfolding move_to enters log
      balanced-wait_server code v c low high h =
          wait_server-cases Balanced m code v c t idle-hand (λ e. balanced_wait_wel v code (wel-at h v code low high))
          (λ e. weighs-wake_first_wel (by t) v code idle-hand (wel-at h v code low high) w)
          (λ e. weighs-wake_first_wel (by t) v code (enters t idle-hand) (wel-at h v code low high) entered)

      -- another holds the facility
      balanced-preempt : (f : ℕ) → Names (servers m) f → Shape m s → Balanced (effect m (preempt f) t idle-hand)
      unfolding move_to set_use enters log share_server interrupt server_at
      balanced-preempt f at h =
          preempt-cases Balanced m f t idle-hand (λ e. balanced-take_units (facility f) true at h)
          (λ x l e. weighs-check_wels (by t) f _ at.0 at.1 h.wel-length
          (weighs-interrupt (by t) x l t f (enters t idle-hand) e entered))

      balanced-give_back : (f : ℕ) → Names (servers m) f → Shape m s → Balanced (effect m (give_back f) t idle-hand)
      unfolding move_to set_use enters log share_server share_units resume to_fel
      balanced-give_back f at h =
          give_back-cases Balanced m f t idle-hand (λ e. balanced-frees (facility f) at h)
          (λ i l e. weighs-check_wels (by t) f _ at.0 at.1 h.wel-length
          (weighs-resume (by t) i l f (set_holder f i.who.number false (enters t idle-hand)) e entered))

      -- a question has stopped the turn where there is no time
      balanced-delay : (l : List ℕ) (list : ℕ) → ask_advance m l s ≡ 0 → Balanced (delay l list t (enters t idle-hand))
      unfolding ask_advance delay to_fel enters log
      balanced-delay [] list q = absurd (omega arith)
      balanced-delay (time ∷ l) list q =
          weighs-to_fel 0 _ (with_returning false (with_next (suc t.next) t)) (use_time list (enters t idle-hand))
          (weighs-enters (by t + 0) t idle-hand plain in-hand)

    balanced-terminate : (a : ℕ) → (facts (block_at m t.next)).terminates ≡ 1 → Balanced (ends_one a (enters t idle-hand))
    unfolding ends_one enters log record_of
    balanced-terminate a e = omega (arith, ap (λ n. cond (eqb n 1) (f t.number) 0) e)

    -- ASSEMBLE: the first of its family waits, a later one ends
    balanced-assemble : (n : ℕ) → block_at m t.next ≡ assemble n → (facts (block_at m t.next)).terminates ≡ 1 → Shape m s
        → Balanced (effect m (assemble n) t idle-hand)
    unfolding enters log record_of to_gatherers comes released to_rel
    balanced-assemble n e ends h =
        assemble-cases Balanced m n t idle-hand (λ k. weighs-to_gatherers 0 waiter waits (gatherers-at h t.next n e) noted)
        (λ g l k z. weighs-released 0 t later g l k (gatherers-at h t.next n e) gone_one)
        (λ g l k z. weighs-comes 0 t later g l k (gatherers-at h t.next n e) gone_one)
      where
        later : State
        later = set_ended (suc (enters t idle-hand).ended) (enters t idle-hand)

        gone_one : Weighs 0 (enters t idle-hand)
        gone_one = unfold enters log record_of in (omega (arith, ap (λ n. cond (eqb n 1) (f t.number) 0) ends))

    terminates-at : {b : Block} → block_at m t.next ≡ b → (facts (block_at m t.next)).terminates ≡ (facts b).terminates
    terminates-at e = ap (λ b. (facts b).terminates) e

    -- the block's question was answered, and it is proper
    balanced-effect : (b : Block) → block_at m t.next ≡ b → question m b t s ≡ 0 → ProperBlock m b → Shape m s
        → Balanced (effect m b t idle-hand)
    unfolding effect move_to facts enters log to_rel set_content question take_units
    balanced-effect (generate list p) e q good h = weighs-arrival (by t) _ list p _ _ (entered (terminates-at e))
    balanced-effect (advance list) e q good h = balanced-delay (terminates-at e) (times_left s list) list q
    balanced-effect (terminate a) e q good h = balanced-terminate a (terminates-at e)
    balanced-effect (takes x) e q good h = balanced-take_units (terminates-at e) x false (share-server m x good) h
    balanced-effect (frees x) e q good h = balanced-frees (terminates-at e) x (share-server m x good) h
    balanced-effect (wait_server code v c) e q good h =
        let at : Names (servers m) v = code-server m code v good.0 in
        balanced-wait_server (terminates-at e) code v c at.0 at.1 h
    balanced-effect (wait_terms a r b) e q good h =
        let plain : (facts (block_at m t.next)).terminates ≡ 0 = terminates-at e in
        wait_terms-cases Balanced m a r b t idle-hand (λ k. balanced_wait_wsl plain) (λ k. entered plain)
    balanced-effect (moves c target) e q good h = entered (terminates-at e)
    balanced-effect (assign k a) e q good h = entered (terminates-at e)
    balanced-effect (priority p) e q good h =
        weighs-to_rel 0 (with_priority p (with_returning false (with_next (suc t.next) t))) (enters t idle-hand)
        (weighs-enters (by t + 0) t idle-hand (terminates-at e) in-hand)
    balanced-effect (split n target) e q good h = weighs-copies (by t) n target t _ (entered (terminates-at e))
    balanced-effect (counts c q) e z good h = entered (terminates-at e)
    balanced-effect (assemble n) e q good h = balanced-assemble n e (terminates-at e) h
    balanced-effect (preempt f) e q good h = balanced-preempt (terminates-at e) f (good.0, omega (arith, good.1)) h
    balanced-effect (give_back f) e q good h = balanced-give_back (terminates-at e) f (good.0, omega (arith, good.1)) h

    balanced-answer : (n : ℕ) → question m (block_at m t.next) t s ≡ n → s.moving ≡ some t → Proper m tape → Shape m s
        → Balanced (answer n m (block_at m t.next) t s)
    unfolding answer
    balanced-answer zero q o proper h = balanced-effect _ refl q (proper.block t.next) h
    balanced-answer (suc n) q o proper h = rw o w

  balanced-execute : (o : Option Transaction) (s : State) → s.moving ≡ o → Proper m tape → Shape m s → Balanced s
      → Balanced (execute o m s)
  unfolding execute
  balanced-execute none s e proper h w = w
  balanced-execute (some t) s e proper h w = balanced-answer t s (rw e at w) _ refl e proper h

  balanced-ws_scheme : (s : State) → Balanced s → Balanced (ws_scheme m s)
  unfolding wake_wsl
  balanced-ws_scheme s w =
      ws_scheme-cases Balanced m s (λ e. weighs-wake_wsl (held s.moving) (λ t. not (waits_on m s.view t)) s w) (λ e. w)

  pub balanced-turn : Proper m tape → (s : State) → Shape m s → Balanced s → Balanced (turn m s)
  unfolding turn
  balanced-turn proper s h w =
      balanced-ws_scheme _
      (balanced-execute _ _ refl proper (taking-kept (Shape m) (shape_closed m) s.moving s h) (balanced-taking s.moving s refl w))

  -- ---- The start

  balanced-idle : Balanced (idle m tape)
  unfolding idle up_to
  balanced-idle = omega (arith, sum-flat-none by (servers m), sum-flat-none by (servers m * 6), sum-flat-none by_who (length m.blocks))

  balanced-arrival : (l : List ℕ) (list p n : ℕ) (s : State) → Balanced s → Balanced (arrival l list p n s)
  unfolding arrival to_fel
  balanced-arrival [] list p n s w = w
  balanced-arrival (time ∷ l) list p n s w = weighs-arrival (held s.moving) (time ∷ l) list p n s w

  balanced-start_at : (n : ℕ) (l : List Block) (s : State) → Balanced s → Balanced (start_at n l s)
  unfolding start_at
  balanced-start_at n [] s w = w
  balanced-start_at n (b ∷ l) s w =
      balanced-start_at (suc n) l _ (start_of-cases Balanced b n s (λ e. w) (λ e. balanced-arrival _ _ _ n s w))

  pub balanced-start : Balanced (start m tape)
  unfolding start
  balanced-start = balanced-start_at 1 m.blocks _ balanced-idle
