-- Every state of a run, before a turn and after the taking, is sane.
use Rattle.machine.specs.All.{ℕ, zero, suc, ◌+◌, ◌*◌, ◌-◌, ◌≤◌, ◌<◌, ◌≡◌, refl, sym, subst, Bool, true, false, true≢false, List, [], ◌∷◌, map, ◌++◌, arith, eqb-true, eqb-false, eqb, length, replicate, length-append, length-map, get_or, Rules, in_force, max_serial, max_turns, Transaction, Gatherer, Interrupted, flat, nth, Server, Queue, idle_server, empty_queue, server_at, Block, BlockModel, facts, block_at, State, set_turns, set_end, interrupted_at, taking, turn, idle, start_at, start, placed, places, Each, everyone, standing, loser_by}
use Rattle.machine.proofs.{Decoding.Proper.Proper, Decoding.Proper.Names, Lists.Chosen.none-numbered, Runs.RunLaws.each_map, Runs.RunLaws.each-pair, Lists.Cases.start_of-cases, Runs.Kept.taking-kept, NobodyAble.Waiting.Waits, Runs.Ahead.Ahead}
use Rattle.machine.proofs.Later.Holders.{Holding, holding-taking, holding-turn, holding-start}
use Rattle.machine.proofs.Runs.Shape.{Shape, shape_closed, shape-turn, shape-start, each-get_or}
use Rattle.machine.proofs.Runs.Everybody.{Maybe, Everybody, taking-everybody, like}
use Rattle.machine.proofs.Runs.Placed.{Placed, placed-turn, placed-start}
use Rattle.machine.proofs.NobodyAble.WaitsKept.{waits-taken, waits_kept, waits_start}
use Rattle.machine.proofs.NobodyAble.StillWaiting.{AllHold, settled-turn, settled-start}
use Rattle.machine.proofs.Runs.Clocks.{Timely, taking-timely, timely-turn, timely-start}
use Rattle.machine.proofs.Conservation.Conservation.{Sound, sound-conserved, stands-at-most-once, sound-start, sound-taking, sound-turn}
use Rattle.machine.proofs.Later.Gathering.{Gathering, gathering-turn, gathering-start, come-below, taking-gatherers}
use Rattle.state.specs.All.{Note, entered_note, waits_note, no_note, logged, count_entry, note_as}
use Rattle.state.proofs as our
use our.Sane.{Sane}
use our.Gains.{each_set, server_sums, queue_sums, Gains, gains_trans, gains-most}
use our.BlockGains.{gains-none, gains-arrival}
use our.TurnGains.{Turned, unnoted, noted, turned}
use our.Numbered.{Numbered, numbered}
use our.Measured.{ServerBound, QueueBound, Measured, measured-gains, measured_like, units_small, Took, took}
use mathlib.Core.Path.{ap, ◌∙◌}
use Rattle.machine.proofs.Lists.Chosen.{upto}
use Rattle.machine.proofs.Runs.Everybody.{Unmoved}
use Rattle.machine.proofs.Conservation.Conservation.{Conserved}

-- the state in which the block of a turn finds the machine
abbrev pub taken_of : State → State
taken_of s = set_turns (suc s.turns) (taking s.moving s)

-- ---- How many stand where

each-flat : {A : Type 0} (ls : List (List A)) (n : ℕ) → length (flat ls) ≤ n → Each (λ (l : List A). length l ≤ n) ls
unfolding flat
each-flat [] n h = tt
each-flat (l ∷ ls) n h = (omega (arith, length-append l (flat ls)), each-flat ls n (omega (arith, length-append l (flat ls))))

module _ (m : BlockModel) (tape : List (List ℕ)) (s : State) (sound : Sound m tape s) where
  stand : length (places s) + s.ended ≡ s.made
  stand =
      let c : Conserved m tape s = sound-conserved m tape s sound in
      omega (arith, c.made, c.ended, c.balance, c.living)

  parts : length (flat s.ql) + length s.fel ≤ length (places s)
  unfolding places placed
  parts = simp (length-append, length-map) (omega arith)

-- ---- Sane or measured

measured_of : {m : BlockModel} {s : State} → Sane m s → Ahead s → Measured s.turns s
measured_of {s = s} h ahead =
    record {
      samples = h.samples;
      made = h.made;
      counter = h.counter;
      ahead = ahead;
      contents = h.contents;
      servers =
          each_map (λ v (b : U v × (W v × L v)). (b.0, b.1.0, b.1.1)) s.view.servers
          (each-pair U (λ v. W v × L v) s.view.servers h.unit-ticks (each-pair W L s.view.servers h.wait-ticks h.longest));
      queues =
          each-pair (λ (q : Queue). q.content_ticks ≤ 100000001 * s.view.clock) (λ (q : Queue). q.longest ≤ 100000001) s.view.queues
          h.content-ticks h.longest-content;
    }
  where
    U : Server → Type 0
    U v = v.unit_ticks ≤ 65535 * s.view.clock

    W : Server → Type 0
    W v = v.wait_ticks ≤ 1024 * s.view.clock

    L : Server → Type 0
    L v = v.longest ≤ 1024

-- fewer have come to each ASSEMBLE than it gathers
abbrev ComeIn : BlockModel → List (List Gatherer) → Type 0
ComeIn m gatherers =
    (b : ℕ) → 1 ≤ b → 0 < (facts (block_at m b)).gathers → Each (λ g. g.come < (facts (block_at m b)).gathers) (nth gatherers b [])

abbrev Come : BlockModel → State → Type 0
Come m s = ComeIn m s.gatherers

-- who is interrupted lost a facility, and nobody lost a seized one
abbrev Stopped : BlockModel → State → Type 0
Stopped m s =
    Each (λ (i : Interrupted). Names m.facilities i.facility) s.interrupted
    × ((f : ℕ) → Names m.facilities f → (server_at s.view f).preempted ≡ false → interrupted_at s f ≡ [])

stopped_of : (m : BlockModel) (tape : List (List ℕ)) (s : State) → Holding m tape s → Stopped m s
unfolding server_at
stopped_of m tape s h = (
  h.known,
  λ f at seized.
      none-numbered (interrupted_at s f) ((h.each f at).loser ∙ ap upto (nobody f at seized (eqb (loser_by m tape s.records f) 0) refl)),
)
  where
    nobody : (f : ℕ) → (at : Names m.facilities f) → (get_or s.view.servers (f - 1) (idle_server 0)).preempted ≡ false → (b : Bool)
        → eqb (loser_by m tape s.records f) 0 ≡ b
        → loser_by m tape s.records f ≡ 0
    nobody f at seized true e = eqb-true _ 0 e
    nobody f at seized false e = absurd (true≢false (sym ((h.each f at).taken (positive (eqb-false _ 0 e))).0 ∙ seized))
      where
        positive : (loser_by m tape s.records f ≡ 0 → ⊥) → 0 < loser_by m tape s.records f
        positive n = omega arith

module _ {m : BlockModel} {n : ℕ} (s : State) (shape : Shape m s) (placed : Everybody (Placed m) s) (waits : Waits m s)
    (timely : Timely in_force.max_clock s) (h : Measured n s) where
  sane_of : m.rules ≡ in_force → Come m s → Stopped m s → Maybe (Numbered s.made) s.moving → ((i : ℕ) → standing s i ≤ 1)
      → n ≤ s.turns → s.serial ≤ 100000000 → s.ended ≤ s.made → s.made - s.ended ≤ 1024
      → s.turns ≤ max_turns + 1
      → Each (λ (e : ℕ). e ≤ s.turns) s.view.entries → Each (λ (l : List Transaction). length l ≤ 1024) s.ql → Sane m s
  sane_of rules come stopped mover alone few serials ended living turns entries waiting =
      record {
        rules = rules;
        shape = shape;
        placed = placed;
        waits = waits;
        timely = timely;
        ahead = h.ahead.later;
        samples = h.samples;
        serials = serials;
        made = h.made;
        ended = ended;
        living = living;
        turns = turns;
        counter = h.counter;
        entries = entries;
        contents = each_map (λ q (le : q.content ≤ n). omega arith) s.view.queues h.contents;
        come = come;
        interrupted = stopped.0;
        seized = stopped.1;
        mover = mover;
        alone = alone;
        waiting = waiting;
        unit-ticks = each_map (λ v (b : ServerBound s.view.clock (server_sums v)). b.0) s.view.servers h.servers;
        wait-ticks = each_map (λ v (b : ServerBound s.view.clock (server_sums v)). b.1) s.view.servers h.servers;
        longest = each_map (λ v (b : ServerBound s.view.clock (server_sums v)). b.2) s.view.servers h.servers;
        content-ticks = each_map (λ q (b : QueueBound s.view.clock (queue_sums q)). b.0) s.view.queues h.queues;
        longest-content = each_map (λ q (b : QueueBound s.view.clock (queue_sums q)). b.1) s.view.queues h.queues;
      }

-- ---- The note of a record

note-measured : {k : ℕ} (n : Note) (t : Transaction) (s x : State) → Measured k x → Measured k (note_as n t s x)
unfolding note_as logged count_entry
note-measured entered_note t s x h = measured_like x _ refl refl (omega arith) refl refl refl refl refl h
note-measured waits_note t s x h = measured_like x _ refl refl (omega arith) refl refl refl refl refl h
note-measured no_note t s x h = h

-- the counts that a note leaves
pub note-counts : (n : Note) (t : Transaction) (s x : State)
    → ((note_as n t s x).made ≡ x.made) × ((note_as n t s x).ended ≡ x.ended) × ((note_as n t s x).serial ≡ x.serial)
    × ((note_as n t s x).turns ≡ x.turns)
unfolding note_as logged count_entry
note-counts entered_note t s x = (refl, refl, refl, refl)
note-counts waits_note t s x = (refl, refl, refl, refl)
note-counts no_note t s x = (refl, refl, refl, refl)

abbrev Few : ℕ → List ℕ → Type 0
Few n l = Each (λ (e : ℕ). e ≤ n) l

fewer : (n : ℕ) (l : List ℕ) → Few n l → Few (suc n) l
fewer n l h = each_map (λ e (le : e ≤ n). omega arith) l h

note-entries : (k : ℕ) (n : Note) (t : Transaction) (s x : State) → Few k x.view.entries → Few (suc k) (note_as n t s x).view.entries
unfolding note_as logged count_entry
note-entries k entered_note t s x h =
    let old : nth x.view.entries t.next 0 ≤ k = each-get_or (λ (e : ℕ). e ≤ k) x.view.entries (t.next - 1) 0 h (omega arith) in
    each_set (λ (e : ℕ). e ≤ suc k) x.view.entries (t.next - 1) _ (fewer k x.view.entries h) (omega (arith, old))
note-entries k waits_note t s x h = fewer k x.view.entries h
note-entries k no_note t s x h = fewer k x.view.entries h

-- ---- After the taking

record After (n : ℕ) (s s' : State) : Type 0 where
  measured : Measured (suc n) s'
  living : s'.made - s'.ended ≤ 1024
  entries : Few (suc n) s'.view.entries
  serials : s'.serial ≤ s.serial + 255
  turns : s'.turns ≡ s.turns

after : {n : ℕ} {s s' : State} → Turned s s' → Measured n s → s.made - s.ended ≤ 1024 → Few n s.view.entries → After n s s'
after {n} {s} {s'} (unnoted g) h living entries =
    record {
      measured =
          subst (λ (i : ℕ). Measured i s') add-one-is (measured-gains (gains-most 0 0 1 (omega arith) (omega arith) (omega arith) g) h);
      living = omega arith;
      entries = subst (Few (suc n)) (sym g.entries) (fewer n s.view.entries entries);
      serials = omega arith;
      turns = g.turns;
    }
  where
    add-one-is : n + 1 ≡ suc n
    add-one-is = omega arith
after {n} {s} {s'} (noted t e x later w g) h living entries =
    let c = note-counts x t s later in
    let b : Gains w.new 255 1 s later = w.gains in
    let k : Measured (n + 1) later = measured-gains b h in
    let r : s.made - s.ended + w.new ≤ 1024 = w.room living in
    record {
      measured = subst (λ (i : ℕ). Measured i s') i (measured-gains g (note-measured x t s later k));
      living = omega (arith, r);
      entries = subst (Few (suc n)) (sym g.entries) (note-entries n x t s later (subst (Few n) (sym b.entries) entries));
      serials = omega arith;
      turns = g.turns ∙ c.3 ∙ b.turns;
    }
  where
    i : n + 1 + 0 ≡ suc n
    i = omega arith

-- ---- The turn

-- what every state of a run has
pub record Sure (m : BlockModel) (tape : List (List ℕ)) (s : State) : Type 0 where
  pub sane : Sane m s
  pub ahead : Ahead s
  pub sound : Sound m tape s
  pub gathering : Gathering m tape s
  pub holding : Holding m tape s
  -- where the WS scheme ran, every comparison on which one waits holds
  pub settled : s.end ≡ 0 → AllHold m s

module _ {m : BlockModel} {tape : List (List ℕ)} (proper : Proper m tape) (s : State) (h : Sure m tape s) (going : s.end ≡ 0)
    (serials : s.serial ≤ max_serial) (turns : s.turns < max_turns) where
  abbrev hs : Sane m s
  hs = h.sane

  pub taken-took : Took s.turns s (taking s.moving s)
  taken-took = took s.turns s (omega arith) (measured_of hs h.ahead) (units_small proper s hs.shape) hs.waiting s.moving

  -- the FEL has at most 1,024 members
  fel-few : length s.fel ≤ 1024
  fel-few = omega (arith, stand m tape s h.sound, parts m tape s h.sound, hs.living)

  taken-measured : Measured s.turns (taken_of s)
  taken-measured = measured_like (taking s.moving s) (taken_of s) refl refl (omega arith) refl refl refl refl refl taken-took.measured

  taken-shape : Shape m (taken_of s)
  taken-shape = taking-kept (Shape m) (shape_closed m) s.moving s hs.shape

  taken-placed : Everybody (Placed m) (taken_of s)
  taken-placed =
      let U : Unmoved (Placed m) = record { mark = λ b t p. p; serial = λ n t p. p } in
      let k : Everybody (Placed m) (taking s.moving s) = taking-everybody (Placed m) U s.moving s hs.placed in
      record {
        ql = k.ql;
        wel = k.wel;
        wsl = k.wsl;
        rel = k.rel;
        fel = k.fel;
        gatherers = k.gatherers;
        interrupted = k.interrupted;
        moving = k.moving;
      }

  taken-timely : Timely in_force.max_clock (taken_of s)
  taken-timely =
      let k : Timely in_force.max_clock (taking s.moving s) = taking-timely s.moving s hs.timely in
      record { clock = k.clock; times = k.times; remaining = k.remaining; serials = k.serials }

  taken-entries : Few s.turns (taken_of s).view.entries
  taken-entries = subst (Few s.turns) (sym taken-took.entries) hs.entries

  taken-living : (taken_of s).made - (taken_of s).ended ≤ 1024
  taken-living = omega (arith, taken-took.made, taken-took.ended, hs.living)

  taken-serials : (taken_of s).serial ≤ max_serial + 1024
  taken-serials = omega (arith, taken-took.serials, fel-few)

  -- the taking gathers nobody
  taken-come : Come m (taken_of s)
  taken-come = subst (ComeIn m) (sym (taking-gatherers s.moving s)) hs.come

  taken-alone : (n : ℕ) → standing (taken_of s) n ≤ 1
  unfolding standing everyone
  taken-alone = stands-at-most-once m tape (taking s.moving s) (sound-taking m tape s h.sound)

  taken-mover : Maybe (Numbered (taken_of s).made) (taken_of s).moving
  taken-mover = (numbered m tape (taking s.moving s) (sound-taking m tape s h.sound)).moving

  -- of the state in which the block of a taken turn finds the machine
  pub sane-taken : Sane m (taken_of s)
  sane-taken =
      sane_of (taken_of s) taken-shape taken-placed (waits-taken m s going hs.waits) taken-timely taken-measured hs.rules taken-come
      (stopped_of m tape (taken_of s) (holding-taking m tape s.moving s h.holding)) taken-mover taken-alone (omega arith)
      (omega (arith, taken-serials))
      (omega (arith, taken-took.made, taken-took.ended, hs.ended)) taken-living (omega arith)
      (fewer s.turns (taken_of s).view.entries taken-entries)
      (subst (Each (λ (l : List Transaction). length l ≤ 1024)) (sym taken-took.ql) hs.waiting)

  turn-after : After s.turns (taken_of s) (turn m s)
  unfolding turn
  turn-after = after (turned proper (taken_of s)) taken-measured taken-living taken-entries

  -- of the state that the turn leaves
  pub sure-turn : Sure m tape (turn m s)
  sure-turn =
      let a : After s.turns (taken_of s) (turn m s) = turn-after in
      let sound : Sound m tape (turn m s) = sound-turn m tape proper s h.sound in
      let gathering : Gathering m tape (turn m s) = gathering-turn proper s h.sound hs.placed h.gathering in
      let holding : Holding m tape (turn m s) = holding-turn m tape proper s h.sound h.holding in
      let all : length (places (turn m s)) + (turn m s).ended ≡ (turn m s).made = stand m tape (turn m s) sound in
      let turned-timely : Timely in_force.max_clock (turn m s) =
      subst (λ (q : Rules). Timely q.max_clock (turn m s)) hs.rules
      (timely-turn m s (subst (λ (q : Rules). Timely q.max_clock s) (sym hs.rules) hs.timely)) in
      let few : length (flat (turn m s).ql) ≤ 1024 = omega (arith, all, parts m tape (turn m s) sound, a.living) in
      record {
        sane =
            sane_of (turn m s) (shape-turn m s hs.shape) (placed-turn m tape proper s hs.placed)
            (waits_kept proper s going hs.shape hs.waits).0 turned-timely a.measured hs.rules
            (come-below proper (turn m s) gathering)
            (stopped_of m tape (turn m s) holding) (numbered m tape (turn m s) sound).moving (stands-at-most-once m tape (turn m s) sound)
            (omega (arith, a.turns)) (omega (arith, a.serials, taken-serials)) (omega (arith, all)) a.living (omega (arith, a.turns))
            (subst (λ (n : ℕ). Few n (turn m s).view.entries) (sym a.turns) a.entries) (each-flat (turn m s).ql 1024 few);
        ahead = a.measured.ahead;
        sound = sound;
        gathering = gathering;
        holding = holding;
        settled = settled-turn m s;
      }

-- ---- The start

start-gains : (n : ℕ) (l : List Block) (s : State) → Gains (length l) (length l) 0 s (start_at n l s)
unfolding start_at
start-gains n [] s = gains-none s
start-gains n (b ∷ l) s =
    gains-most (suc (length l)) (suc (length l)) 0 (omega arith) (omega arith) (omega arith)
    (gains_trans
    (start_of-cases (Gains 1 1 0 s) b n s (λ e. gains-most 1 1 0 (omega arith) (omega arith) (omega arith) (gains-none s))
    (λ e. gains-arrival _ _ _ n s))
    (start-gains (suc n) l _))

each-replicate : {A : Type 0} (P : A → Type 0) (n : ℕ) (a : A) → P a → Each P (replicate n a)
each-replicate P zero a p = tt
each-replicate P (suc n) a p = (p, each-replicate P n a p)

idle-servers : (n : ℕ) (l : List ℕ) → Each (λ (v : Server). ServerBound 0 (server_sums v)) (replicate n (idle_server 1) ++ map idle_server l)
unfolding idle_server
idle-servers zero [] = tt
idle-servers zero (c ∷ l) = ((omega arith, omega arith, omega arith), idle-servers zero l)
idle-servers (suc n) l = ((omega arith, omega arith, omega arith), idle-servers n l)

module _ {m : BlockModel} {tape : List (List ℕ)} (proper : Proper m tape) (rules : m.rules ≡ in_force) where
  idle-measured : Measured 0 (idle m tape)
  unfolding idle empty_queue
  idle-measured =
      record {
        samples = λ list i. subst (λ (q : Rules). get_or (nth tape list []) i 0 ≤ q.max_time) rules (proper.times (list - 1) i);
        made = omega arith;
        counter = proper.counter.1;
        ahead = record { later = tt; rising = tt };
        contents = each-replicate (λ (q : Queue). q.content ≤ 0) m.queues empty_queue (omega arith);
        servers = idle-servers m.facilities m.capacities;
        queues = each-replicate (λ (q : Queue). QueueBound 0 (queue_sums q)) m.queues empty_queue (omega arith, omega arith);
      }

  pub start_is : Gains (length m.blocks) (length m.blocks) 0 (idle m tape) (start m tape)
  unfolding start
  start_is = start-gains 1 m.blocks (idle m tape)

  idle-zero : ((idle m tape).made ≡ 0) × ((idle m tape).serial ≡ 0) × ((idle m tape).turns ≡ 0) × Few 0 (idle m tape).view.entries
  unfolding idle
  idle-zero = (refl, refl, refl, each-replicate (λ (e : ℕ). e ≤ 0) (length m.blocks) 0 (omega arith))

  pub sure-start : Sure m tape (start m tape)
  sure-start =
      let g : Gains (length m.blocks) (length m.blocks) 0 (idle m tape) (start m tape) = start_is in
      let z = idle-zero in
      let few : length m.blocks ≤ 256 = proper.blocks.1 in
      let k : Measured 0 (start m tape) = measured-gains g idle-measured in
      let sound : Sound m tape (start m tape) = sound-start m tape proper in
      let all : length (places (start m tape)) + (start m tape).ended ≡ (start m tape).made = stand m tape (start m tape) sound in
      let made : (start m tape).made ≤ 256 = omega (arith, few, all) in
      let below : m.rules.max_time ≤ m.rules.max_clock =
      subst (λ (q : Rules). q.max_time ≤ q.max_clock) (sym rules) (omega (arith, made)) in
      let started : Timely in_force.max_clock (start m tape) =
      subst (λ (q : Rules). Timely q.max_clock (start m tape)) rules (timely-start m tape proper below) in
      record {
        sane =
            sane_of (start m tape) (shape-start m tape proper.tapes) (placed-start m tape proper) (waits_start m tape).0 started k rules
            (come-below proper (start m tape) (gathering-start proper))
            (stopped_of m tape (start m tape) (holding-start m tape)) (numbered m tape (start m tape) sound).moving
            (stands-at-most-once m tape (start m tape) sound) (omega arith) (omega arith) (omega arith) (omega arith) (omega arith)
            (each_map (λ e (le : e ≤ 0). omega arith) (start m tape).view.entries (subst (Few 0) (sym g.entries) z.3))
            (each-flat (start m tape).ql 1024 (omega (arith, parts m tape (start m tape) sound)));
        ahead = k.ahead;
        sound = sound;
        gathering = gathering-start proper;
        holding = holding-start m tape;
        settled = λ e. settled-start m tape;
      }

-- ---- The run

-- more turns, or another end
pub sane-turns : {m : BlockModel} (n e : ℕ) (s : State) → s.turns ≤ n → n ≤ max_turns + 1 → Sane m s → Sane m (set_end e (set_turns n s))
sane-turns n e s more few k =
    record {
      rules = k.rules;
      shape = k.shape;
      placed = record {
        ql = k.placed.ql;
        wel = k.placed.wel;
        wsl = k.placed.wsl;
        rel = k.placed.rel;
        fel = k.placed.fel;
        gatherers = k.placed.gatherers;
        interrupted = k.placed.interrupted;
        moving = k.placed.moving;
      };
      waits = k.waits;
      timely = record { clock = k.timely.clock; times = k.timely.times; remaining = k.timely.remaining; serials = k.timely.serials };
      ahead = k.ahead;
      samples = k.samples;
      serials = k.serials;
      made = k.made;
      ended = k.ended;
      living = k.living;
      turns = few;
      counter = k.counter;
      entries = each_map (λ i (le : i ≤ s.turns). omega arith) s.view.entries k.entries;
      contents = each_map (λ (q : Queue) (le : q.content ≤ s.turns). omega arith) s.view.queues k.contents;
      come = k.come;
      interrupted = k.interrupted;
      seized = k.seized;
      mover = k.mover;
      alone = unfold standing everyone in k.alone;
      waiting = k.waiting;
      unit-ticks = k.unit-ticks;
      wait-ticks = k.wait-ticks;
      longest = k.longest;
      content-ticks = k.content-ticks;
      longest-content = k.longest-content;
    }

pub sure-end : (m : BlockModel) (tape : List (List ℕ)) (s : State) (e : ℕ) → (e ≡ 0 → ⊥) → Sure m tape s → Sure m tape (set_end e s)
sure-end m tape s e ends h =
    record {
      sane = sane-turns s.turns e s (omega arith) h.sane.turns h.sane;
      ahead = record { later = h.ahead.later; rising = h.ahead.rising };
      sound = record { shape = h.sound.shape; balanced = h.sound.balanced; books = h.sound.books };
      gathering =
          record {
            kindred =
                like _ (record { mark = λ b t p. p; serial = λ n t p. p }) s (set_end e s) refl refl refl refl refl refl refl refl
                h.gathering.kindred;
            gathers = h.gathering.gathers;
          };
      holding = h.holding;
      settled = λ z. absurd (ends z);
    }
