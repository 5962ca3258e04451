-- Every turn keeps the line, and so it holds in the last state of every run of the program.
use Rattle.machine.specs.All.{ℕ, zero, suc, ◌+◌, ◌*◌, ◌≤◌, ◌<◌, ◌≡◌, refl, sym, ap, subst, subst₂, ◌∙◌, Bool, not, List, [], ◌∷◌, ◌++◌, map, Option, none, some, arith, leb-true, leb-false, length, get_or, drop, replicate, get_or-set_same, get_or-set_other, Transaction, Event, newborn, insert, those, nth, Server, idle_server, server_at, free, Block, seize, advance, terminate, facts, share_server, share_units, share_holder, BlockModel, block_at, State, Logged, set_moving, set_rel, set_serial, set_turns, record_of, log, enters, move_to, fresh, to_fel, ql_of, to_ql, must_wait, wake_ql, wake_wsl, set_use, times_left, arrival, ask_advance, question, part_for, wake_for, ends_one, delay, effect, take_first, take_ready, taking, answer, execute, waits_on, ws_scheme, turn, start_of, start_at, idle, start, run, Each, with_serial, line_up, next_events, leb}
use Rattle.machine.proofs.{Runs.RunLaws.last-state, Basic.Bools.cond_cases, Lists.Cases.ws_scheme-cases, Runs.Kept.taking-kept, Basic.Taking.next_events-moving}
use Rattle.machine.proofs.Runs.Shape.{Shape, shape_closed, shape-turn, shape-start, ql-at, samples-at, server-length, server-within, facility-capacity}
use Rattle.slowjob.specs.{jobs, JobLine, ends, comes, leaves}
use Rattle.slowjob.proofs as our
use our.Events.{Ready, generates, seizes, releases, neither, coming}
use our.Line.{used, Nobody, Lists, Serving, Gone, Lined, Line, line-wels, line-wsl, line_taken}
use our.Line as Line
use our.{ClockMove.line-next, Events.AllReady}
use our.Steps.{drop-step, lined_spent, lined_generated, lined_advanced, lined-seized, lined-queued, lined-released, lined-logged, lined-ended}

-- the facility, its QL and the two sample lists are there
record Fixed (x : List Server) (y : List (List Transaction)) (z : List (List ℕ)) : Type 0 where
  server : 0 < length x
  capacity : (get_or x 0 (idle_server 0)).capacity ≡ 1
  within : (get_or x 0 (idle_server 0)).in_use ≤ 1
  ql : 0 < length y
  samples : 1 < length z

abbrev Fixtures : State → Type 0
Fixtures s = Fixed s.view.servers s.ql s.samples

fixtures : (m : BlockModel) (s : State) → 1 ≤ m.facilities → 2 ≤ m.lists → Shape m s → Fixtures s
unfolding server_at
fixtures m s one two h =
    record {
      ql = ql-at h 1 (omega arith) (omega arith);
      samples = samples-at h 2 (omega arith) two;
      server = omega (arith, server-length h);
      capacity = facility-capacity h 1 (omega arith) one;
      within = omega (arith, server-within h 1, facility-capacity h 1 (omega arith) one);
    }

-- ---- Where somebody in hand stands

pub data Stage : ℕ → Type 0 where
  before-generate : Stage 1
  before-seize : Stage 2
  before-advance : Stage 3
  before-release : Stage 4
  before-terminate : Stage 5

abbrev pub Hand : Option Transaction → ℕ → Type 0
Hand none b = b ≡ 0
Hand (some t) b = Stage b × (t.next ≡ b)

module _ (m : BlockModel) (arrivals services : List ℕ) where
  pub record Sound (s : State) : Type 0 where
    pub block : ℕ
    pub hand : Hand s.moving block
    pub line : Line m arrivals services block s

  -- ---- Equal numbers and lists

  module _ {b clock : ℕ} {rel : List Transaction} {fel : List Event} {wel : List (List Transaction)} {wsl : List Transaction}
      {records : List Logged} where
    with-times : {in_use : ℕ} {ql : List Transaction} {x y x' y' : List ℕ} → x ≡ x' → y ≡ y'
        → Lined m arrivals services b clock in_use rel fel ql wel wsl x' y' records
        → Lined m arrivals services b clock in_use rel fel ql wel wsl x y records
    with-times {in_use} {ql} e d h = subst₂ (λ x y. Lined m arrivals services b clock in_use rel fel ql wel wsl x y records) (sym e) (sym d) h

    with-server : {in_use in_use' : ℕ} {ql ql' : List Transaction} {x y : List ℕ} → in_use ≡ in_use' → ql ≡ ql'
        → Lined m arrivals services b clock in_use' rel fel ql' wel wsl x y records
        → Lined m arrivals services b clock in_use rel fel ql wel wsl x y records
    with-server {x} {y} e d h = subst₂ (λ n q. Lined m arrivals services b clock n rel fel q wel wsl x y records) (sym e) (sym d) h

  -- ---- Moves

  line-log : (b outcome : ℕ) (t : Transaction) (s : State) → (facts (block_at m t.next)).terminates ≡ 0 → Line m arrivals services b s
      → Line m arrivals services b (log outcome t s)
  unfolding log record_of
  line-log b outcome t s e h = lined-logged m arrivals services _ e h

  line-enters : (b : ℕ) (t : Transaction) (s : State) → (facts (block_at m t.next)).terminates ≡ 0 → Line m arrivals services b s
      → Line m arrivals services b (enters t s)
  unfolding enters
  line-enters b t s e h = line-log b 0 t _ e h

  line-arrival : (n : ℕ) → n ≡ 1 → (s : State) → Fixtures s → Line m arrivals services 1 s → (l : List ℕ) → times_left s 1 ≡ l
      → Line m arrivals services 2 (arrival l 1 0 n s)
  unfolding arrival to_fel newborn
  line-arrival n one s f h [] is = lined_spent m arrivals services h
  line-arrival n one s f h (time ∷ l) is =
      with-times (get_or-set_same s.samples 0 (drop 1 (times_left s 1)) [] (omega (arith, f.samples)) ∙ ap (drop 1) is)
      (get_or-set_other s.samples 0 1 (drop 1 (times_left s 1)) [] (λ e. omega arith))
      (lined_generated m arrivals services time l _ one (with-times (sym is) refl h))

  line-delay : (t : Transaction) → t.next ≡ 3 → (s s₀ : State) → Fixtures s → (l : List ℕ) → times_left s 2 ≡ l → ask_advance m l s₀ ≡ 0
      → Line m arrivals services 3 s
      → Line m arrivals services 0 (delay l 2 t s)
  unfolding delay to_fel ask_advance
  line-delay t e s s₀ f [] is asked h = absurd (omega arith)
  line-delay t e s s₀ f (time ∷ l) is asked h =
      with-times (get_or-set_other s.samples 1 0 (drop 1 (times_left s 2)) [] (λ e. omega arith))
      (get_or-set_same s.samples 1 (drop 1 (times_left s 2)) [] f.samples ∙ ap (drop 1) is)
      (lined_advanced m arrivals services time l _ (ap suc e) (with-times refl (sym is) h))

  line_use : (b units holder : ℕ) (preempted : Bool) (s : State) → Fixtures s
      → Lined m arrivals services b s.view.clock units s.rel s.fel (ql_of s 1) s.wel s.wsl (times_left s 1) (times_left s 2)
      s.records
      → Line m arrivals services b (set_use 1 units holder preempted s)
  unfolding set_use
  line_use b units holder preempted s f h =
      with-server (ap (λ v. v.in_use) (get_or-set_same s.view.servers 0 _ (idle_server 0) f.server)) refl h

  line-queue : (t : Transaction) (s : State) → t.next ≡ 2 → Fixtures s → (used s ≡ 0 → ⊥) → Line m arrivals services 2 s
      → Line m arrivals services 0 (to_ql m.edition 1 t s)
  unfolding to_ql
  line-queue t s e f taken h =
      with-server refl (get_or-set_same s.ql 0 (line_up m.edition t (ql_of s 1)) [] f.ql)
      (lined-queued m arrivals services m.edition t e taken h)

  -- ---- Blocks

  module _ (program : m.blocks ≡ jobs) where
    block-at : {n : ℕ} (t : Transaction) → t.next ≡ n → block_at m t.next ≡ nth jobs n (terminate 0)
    block-at {n} t e = ap (block_at m) e ∙ ap (λ l. nth l n (terminate 0)) program

    -- somebody in hand, and nobody else is moving
    module _ (t : Transaction) (s : State) (f : Fixtures s) where
      abbrev before : State
      before = set_moving none s

      sound-seize : t.next ≡ 2 → Line m arrivals services 2 s → Sound (effect m (seize 1) t before)
      unfolding effect move_to enters log to_ql must_wait facts share_server share_units share_holder server_at
      sound-seize e h =
          cond_cases Sound (leb 1 (free (server_at s.view 1))) _ _
          (λ fits.
          let idle : used s ≡ 0 = omega (arith, leb-true 1 (free (server_at s.view 1)) fits, f.capacity) in
          record {
            block = 3;
            hand = (before-advance, ap suc e);
            line = line-wels m arrivals services 3 1 _
                (line_use 3 _ _ _ (enters t before) f
                (with-server (ap (λ n. n + 1) idle) refl (lined-seized m arrivals services idle (line-enters 2 t before plain h))));
          })
          (λ full.
          let taken : (used s ≡ 0 → ⊥) = λ z. omega (arith, leb-false 1 (free (server_at s.view 1)) full, f.capacity) in
          cond_cases Sound t.returning _ _ (λ r. record { block = 0; hand = refl; line = line-queue t before e f taken h })
          (λ r. record {
            block = 0;
            hand = refl;
            line =
                line-queue (with_serial (fresh before) t) (set_serial (fresh before) (log 1 t before)) e f taken
                (line-log 2 1 t before plain h);
          }))
        where
          plain : (facts (block_at m t.next)).terminates ≡ 0
          plain = ap (λ b. (facts b).terminates) (block-at t e)

      sound-advance : t.next ≡ 3 → question m (advance 2) t s ≡ 0 → Line m arrivals services 3 s → Sound (effect m (advance 2) t before)
      unfolding effect enters log facts question
      sound-advance e asked h =
          record {
            block = 0;
            hand = still (times_left s 2);
            line =
                line-delay t e (enters t before) s f _ refl asked (line-enters 3 t before (ap (λ b. (facts b).terminates) (block-at t e)) h);
          }
        where
          still : (l : List ℕ) → Hand (delay l 2 t (enters t before)).moving 0
          still [] = unfold delay in refl
          still (time ∷ l) = unfold delay to_fel in refl

      -- a question stops the turn, or the block is executed
      module _ (moving : s.moving ≡ some t) where
        sound-answer : {b : ℕ} → Stage b → t.next ≡ b → Line m arrivals services b s → (block : Block)
            → (question m block t s ≡ 0 → Sound (effect m block t before))
            → (n : ℕ) → question m block t s ≡ n → Sound (answer n m block t s)
        unfolding answer
        sound-answer st e h block f zero q = f q
        sound-answer {b} st e h block f (suc n) q = record { block = b; hand = subst (λ o. Hand o b) (sym moving) (st, e); line = h }

        sound-at : {b : ℕ} → Stage b → t.next ≡ b → Line m arrivals services b s → (block : Block) → block_at m t.next ≡ block
            → (question m block t s ≡ 0 → Sound (effect m block t before)) → Sound (execute (some t) m s)
        unfolding execute
        sound-at st e h block is f = subst (λ x. Sound (answer (question m x t s) m x t s)) (sym is) (sound-answer st e h block f _ refl)

        sound_stage : {b : ℕ} → Stage b → t.next ≡ b → Line m arrivals services b s → Sound (execute (some t) m s)
        sound_stage before-generate e h =
            sound-at before-generate e h _ (block-at t e) (λ q. (unfold effect move_to enters log facts in record {
              block = 2;
              hand = (before-seize, ap suc e);
              line =
                  line-arrival t.next e (enters t before) f
                  (line-enters 1 t before (ap (λ b. (facts b).terminates) (block-at t e)) h) _ refl;
            }))
        sound_stage before-seize e h = sound-at before-seize e h _ (block-at t e) (λ q. sound-seize e h)
        sound_stage before-advance e h = sound-at before-advance e h _ (block-at t e) (λ q. sound-advance e q h)
        sound_stage before-release e h =
            sound-at before-release e h _ (block-at t e)
            (λ q. (unfold effect move_to enters log facts share_server share_units server_at wake_for part_for in record {
              block = 5;
              hand = (before-terminate, cc e);
              line = line-wels m arrivals services 5 1 _
                  (unfold wake_ql set_use in with-server
                  (ap (λ v. v.in_use) (get_or-set_same (enters t before).view.servers 0 _ _ f.server) ∙ (omega arith))
                  (get_or-set_same (enters t before).ql 0 _ [] f.ql)
                  (lined-released m arrivals services (line-enters 4 t before (cc (block-at t e)) h)));
            }))
        sound_stage before-terminate e h =
            sound-at before-terminate e h _ (block-at t e)
            (λ q. (unfold effect ends_one enters log record_of facts in record {
              block = 0;
              hand = refl;
              line = lined-ended m arrivals services _ (cc (block-at t e)) refl h;
            }))

    sound-execute : (o : Option Transaction) (s : State) → s.moving ≡ o → Fixtures s → Sound s → Sound (execute o m s)
    unfolding execute
    sound-execute none s is f h = h
    sound-execute (some t) s is f h =
        let hand : Hand (some t) h.block = subst (λ o. Hand o h.block) is h.hand in
        sound_stage t s f is hand.0 hand.1 h.line

    sound_ws : (s : State) → Sound s → Sound (ws_scheme m s)
    sound_ws s h =
        ws_scheme-cases Sound m s
        (λ e. record {
          block = h.block;
          hand = unfold wake_wsl in h.hand;
          line = line-wsl m arrivals services h.block (λ t. not (waits_on m s.view t)) s h.line;
        }) (λ e. h)

  -- ---- Taking

  sound-first : (l : List Transaction) (s : State) → s.rel ≡ l → s.moving ≡ none → Line m arrivals services 0 s → Sound (take_first l s)
  unfolding take_first
  sound-first [] s is idle h = record { block = 0; hand = subst (λ o. Hand o 0) (sym idle) refl; line = h }
  sound-first (t ∷ l) s is idle h = go (subst AllReady is h.lists.ready).0 refl
    where
      go : {n : ℕ} → Ready n → t.next ≡ n → Sound (set_moving (some t) (set_rel l s))
      go generates e = record { block = 1; hand = (before-generate, e); line = line_taken m arrivals services t l s is 1 e refl refl h }
      go seizes e = record { block = 2; hand = (before-seize, e); line = line_taken m arrivals services t l s is 2 e refl refl h }
      go releases e = record { block = 4; hand = (before-release, e); line = line_taken m arrivals services t l s is 4 e refl refl h }

  sound-ready : (l : List Transaction) (s : State) → s.rel ≡ l → s.moving ≡ none → Line m arrivals services 0 s → Sound (take_ready l s)
  unfolding take_ready
  sound-ready [] s is idle h =
      sound-first _ (next_events s.fel s) refl (next_events-moving s.fel s ∙ idle) (line-next m arrivals services s.fel s refl is h)
  sound-ready (t ∷ l) s is idle h = sound-first (t ∷ l) s is idle h

  sound-taking : (o : Option Transaction) (s : State) → s.moving ≡ o → Sound s → Sound (taking o s)
  unfolding taking
  sound-taking none s is h =
      let zero-block : h.block ≡ 0 = subst (λ o. Hand o h.block) is h.hand in
      sound-ready s.rel s refl is (subst (λ b. Line m arrivals services b s) zero-block h.line)
  sound-taking (some t) s is h = h

-- ---- The start

idle_use : (n : ℕ) (l : List ℕ) → (get_or (replicate n (idle_server 1) ++ map idle_server l) 0 (idle_server 0)).in_use ≡ 0
unfolding idle_server
idle_use zero [] = refl
idle_use zero (c ∷ l) = refl
idle_use (suc n) l = refl

empty-first : (n : ℕ) → Nobody (get_or (replicate n []) 0 [])
empty-first zero = refl
empty-first (suc n) = refl

empty-all : (n : ℕ) → Each Nobody (replicate n [])
empty-all zero = tt
empty-all (suc n) = (refl, empty-all n)

module _ (m : BlockModel) (arrivals services : List ℕ) (others : List (List ℕ)) where
  abbrev tape : List (List ℕ)
  tape = arrivals ∷ services ∷ others

  nobody-yet : Lists [] [] (idle m tape).wel []
  unfolding idle
  nobody-yet = record { ready = tt; queued = tt; no-wel = empty-all ((m.facilities + length m.capacities) * 6); no-wsl = refl }

  none_yet : Gone m arrivals services 0 0 0 []
  unfolding ends those
  none_yet = record { ended = 0; count = refl; now = λ p. absurd (omega arith); finished = refl }

  waits : Serving arrivals services 0 0 0 0 0 0 0 0 0 services none
  unfolding leaves
  waits = Line.idle refl refl refl refl refl (omega arith) (λ lt. absurd (omega arith)) (λ p. absurd (omega arith))

  -- the facility waits for the first to come
  line-start : (l : List ℕ) → arrivals ≡ l → Line m arrivals services 0 (arrival l 1 0 1 (idle m tape))
  unfolding arrival to_fel newborn idle comes leaves ends those insert
  line-start [] e =
      with-server m arrivals services (idle_use m.facilities m.capacities) (empty-first (m.facilities + length m.capacities))
      (record {
        arrived = 0;
        begun = 0;
        over = 0;
        next-arrival = none;
        next_service = none;
        lists = nobody-yet;
        pending = neither;
        coming = Line.nobody refl;
        serving = waits;
        between = refl;
        past = omega arith;
        gone = none_yet;
      })
  line-start (time ∷ l) e =
      with-server m arrivals services (idle_use m.facilities m.capacities) (empty-first (m.facilities + length m.capacities))
      (record {
        arrived = 0;
        begun = 0;
        over = 0;
        next-arrival = some (0 + time);
        next_service = none;
        lists = nobody-yet;
        pending = coming _ refl (omega arith);
        coming = Line.later (0 + time) refl (omega (arith, (drop-step arrivals 0 time l (sym e)).0)) refl;
        serving = waits;
        between = refl;
        past = omega arith;
        gone = none_yet;
      })

  sound-start : m.blocks ≡ jobs → Sound m arrivals services (start m tape)
  unfolding start
  sound-start program = subst (λ l. Sound m arrivals services (start_at 1 l (idle m tape))) (sym program) first
    where
      first : Sound m arrivals services (start_at 1 jobs (idle m tape))
      first = unfold start_at start_of facts idle in record { block = 0; hand = still arrivals; line = line-start arrivals refl }
        where
          still : (l : List ℕ) → Hand (arrival l 1 0 1 (idle m tape)).moving 0
          still [] = unfold arrival idle in refl
          still (time ∷ l) = unfold arrival to_fel idle in refl

  -- ---- The run

  module _ (line : JobLine m others) where
    abbrev Kept : State → Type 0
    Kept s = Shape m s × Sound m arrivals services s

    kept-turn : (s : State) → Kept s → Kept (turn m s)
    unfolding turn
    kept-turn s h =
        let taken : State = set_turns (suc s.turns) (taking s.moving s) in
        let fixed : Fixtures (taking s.moving s) =
        fixtures m (taking s.moving s) line.facility (omega (arith, line.lists))
        (taking-kept (Shape m) (shape_closed m) s.moving s h.0) in
        let sound : Sound m arrivals services (taking s.moving s) =
        sound-taking m arrivals services s.moving s refl h.1 in (
          shape-turn m s h.0,
          sound_ws m arrivals services line.program _
              (sound-execute m arrivals services line.program taken.moving taken refl fixed
              (record { block = sound.block; hand = sound.hand; line = sound.line })),
        )

    pub run_sound : (budget room : ℕ) → Sound m arrivals services (run m tape budget room)
    run_sound budget room =
        (last-state m budget room Kept (λ s t h. kept-turn s h)
        (λ s e c h. (h.0, record { block = h.1.block; hand = h.1.hand; line = h.1.line })) tape
        (shape-start m tape (omega (arith, line.lists)), sound-start line.program)).1
