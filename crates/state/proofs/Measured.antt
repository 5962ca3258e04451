-- Counts and sums stay within bounds: a sum of ticks is at most so much for each tick that passed, since the clock never falls.
use Rattle.machine.specs.All.{ℕ, zero, suc, ◌+◌, ◌*◌, ◌-◌, ◌≤◌, ◌<◌, ◌≡◌, refl, sym, ap, subst, Bool, List, [], ◌∷◌, map, ◌++◌, Option, none, some, mul-le-mul_right, arith, length, get_or, replicate, in_force, max_capacity, max_counter, Transaction, Event, those, others, Server, Queue, BlockModel, State, set_clock, set_view, set_fel, set_rel, set_serial, sample_servers, sample_queue, sample, due, move_clock, next_events, take_first, take_ready, taking, Each}
use Rattle.machine.proofs.{Decoding.Proper.Proper, Runs.RunLaws.cond_cases, Runs.RunLaws.each_map, Runs.RunLaws.each-pair, Lists.Sorted.each-those, Runs.Clocks.Samples, Runs.Ahead.rising-those, Runs.Ahead.Ahead}
use Rattle.machine.proofs.Runs.Shape.{Shape, Within, capacity_of, all_capacities}
use Rattle.rows_laws.specs.All.{arrivals}
use Rattle.rows_laws.proofs.Clock.MachineArrivals.{arrive_all-is}
use Rattle.state.proofs.Gains.{each-alike, each_mapped, Sums, server_sums, queue_sums, Gains}
use native.Mathlib.Nat.{mul-add}
use Rattle.machine.specs.Lists.{nth}
use Rattle.machine.proofs.Runs.Ahead.{Rising}

-- ---- Definition

-- units, waiters and longest of a server; content and longest of a queue
abbrev pub ServerBound : ℕ → Sums → Type 0
ServerBound clock x = (x.units ≤ 65535 * clock) × (x.waited ≤ 1024 * clock) × (x.longest ≤ 1024)

abbrev pub QueueBound : ℕ → Sums → Type 0
QueueBound clock x = (x.units ≤ 100000001 * clock) × (x.longest ≤ 100000001)

-- n bounds the content of each queue
pub record Measured (n : ℕ) (s : State) : Type 0 where
  pub samples : Samples in_force.max_time s
  pub made : s.made ≤ s.serial
  pub counter : s.counter ≤ max_counter
  pub ahead : Ahead s
  pub contents : Each (λ (q : Queue). q.content ≤ n) s.view.queues
  pub servers : Each (λ (v : Server). ServerBound s.view.clock (server_sums v)) s.view.servers
  pub queues : Each (λ (q : Queue). QueueBound s.view.clock (queue_sums q)) s.view.queues

-- what was measured holds with as much more as was gained
pub measured-gains : {j k c n : ℕ} {s s' : State} → Gains j k c s s' → Measured n s → Measured (n + c) s'
measured-gains {n = n} {s = s} {s' = s'} g h =
    record {
      samples = g.samples h.samples;
      made = omega arith;
      counter = omega arith;
      ahead = g.ahead h.ahead;
      contents = g.contents n h.contents;
      servers =
          subst (λ (c : ℕ). Each (λ (v : Server). ServerBound c (server_sums v)) s'.view.servers) (sym g.clock)
          (each-alike server_sums (ServerBound s.view.clock) s.view.servers s'.view.servers g.servers h.servers);
      queues =
          subst (λ (c : ℕ). Each (λ (q : Queue). QueueBound c (queue_sums q)) s'.view.queues) (sym g.clock)
          (each-alike queue_sums (QueueBound s.view.clock) s.view.queues s'.view.queues g.queues h.queues);
    }

pub measured_like : {n : ℕ} (s s' : State) → s'.samples ≡ s.samples → s'.made ≡ s.made → s.serial ≤ s'.serial
    → s'.counter ≡ s.counter
    → s'.view.clock ≡ s.view.clock → s'.view.queues ≡ s.view.queues → s'.view.servers ≡ s.view.servers → s'.fel ≡ s.fel
    → Measured n s
    → Measured n s'
measured_like s s' samples made serial counter clock queues servers fel h =
    record {
      samples = subst (λ (l : List (List ℕ)). (list i : ℕ) → get_or (nth l list []) i 0 ≤ in_force.max_time) (sym samples) h.samples;
      made = omega (arith, h.made);
      counter = omega (arith, h.counter);
      ahead = record { later = rw (fel, clock) h.ahead.later; rising = rw fel h.ahead.rising };
      contents = rw queues h.contents;
      servers = rw (clock, servers) h.servers;
      queues = rw (clock, queues) h.queues;
    }

-- ---- A clock move

-- a sum over time, at most `most` for each tick
tick-sum : (most sum n clock time : ℕ) → sum ≤ most * clock → n ≤ most → clock ≤ time → sum + n * (time - clock) ≤ most * time
tick-sum most sum n clock time h le ahead =
    let split : clock + (time - clock) ≡ time = omega arith in
    omega (arith, mul-le-mul_right (time - clock) le, mul-add most clock (time - clock), ap (λ (x : ℕ). most * x) split)

sampled-servers : (clock time : ℕ) (l : List Server) (ql : List (List Transaction)) → clock ≤ time
    → Each (λ (v : Server). v.in_use ≤ 65535) l → Each (λ (q : List Transaction). length q ≤ 1024) ql
    → Each (λ (v : Server). ServerBound clock (server_sums v)) l
    → Each (λ (v : Server). ServerBound time (server_sums v)) (sample_servers (time - clock) l ql)
unfolding sample_servers
sampled-servers clock time [] ql le u w h = tt
sampled-servers clock time (v ∷ l) [] le u w h =
    each_map (λ x (k : ServerBound clock (server_sums x)). (omega arith, omega arith, k.2)) (v ∷ l) h
sampled-servers clock time (v ∷ l) (q ∷ ql) le u w h = (
  (
    tick-sum 65535 v.unit_ticks v.in_use clock time h.0.0 u.0 le,
    tick-sum 1024 v.wait_ticks (length q) clock time h.0.1 w.0 le,
    omega arith,
  ),
  sampled-servers clock time l ql le u.1 w.1 h.1,
)

sampled-queues : (n clock time : ℕ) (l : List Queue) → clock ≤ time → n ≤ 100000001 → Each (λ (q : Queue). q.content ≤ n) l
    → Each (λ (q : Queue). QueueBound clock (queue_sums q)) l
    → Each (λ (q : Queue). QueueBound time (queue_sums q)) (map (sample_queue (time - clock)) l)
unfolding sample_queue
sampled-queues n clock time [] le small u h = tt
sampled-queues n clock time (q ∷ l) le small u h = (
  (tick-sum 100000001 q.content_ticks q.content clock time h.0.0 (omega arith) le, omega arith),
  sampled-queues n clock time l le small u.1 h.1,
)

sampled-contents : (n ticks : ℕ) (l : List Queue) → Each (λ (q : Queue). q.content ≤ n) l
    → Each (λ (q : Queue). q.content ≤ n) (map (sample_queue ticks) l)
unfolding sample_queue
sampled-contents n ticks [] h = tt
sampled-contents n ticks (q ∷ l) h = (h.0, sampled-contents n ticks l h.1)

-- units in use are at most the capacity
pub capacities-small : {m : BlockModel} {tape : List (List ℕ)} → Proper m tape → Each (λ (c : ℕ). c ≤ 65535) (all_capacities m)
capacities-small {m} proper = facilities m.facilities m.capacities (storages m.capacities (λ k lt. (proper.capacity k lt).1))
  where
    storages : (l : List ℕ) → ((k : ℕ) → k < length l → get_or l k 0 ≤ max_capacity) → Each (λ (c : ℕ). c ≤ 65535) l
    storages [] h = tt
    storages (x ∷ l) h = (h 0 (omega arith), storages l (λ k lt. h (suc k) (omega arith)))

    facilities : (n : ℕ) (l : List ℕ) → Each (λ (c : ℕ). c ≤ 65535) l → Each (λ (c : ℕ). c ≤ 65535) (replicate n 1 ++ l)
    facilities zero l h = h
    facilities (suc n) l h = (omega arith, facilities n l h)

-- no more units are in use than the server has
pub units_small : {m : BlockModel} {tape : List (List ℕ)} → Proper m tape → (s : State) → Shape m s
    → Each (λ (v : Server). v.in_use ≤ 65535) s.view.servers
units_small {m} proper s h =
    each_map (λ v (k : Within v × (v.capacity ≤ 65535)). omega arith) s.view.servers
    (each-pair Within (λ v. v.capacity ≤ 65535) s.view.servers h.within
    (each_mapped capacity_of (λ (c : ℕ). c ≤ 65535) s.view.servers
    (subst (Each (λ (c : ℕ). c ≤ 65535)) (sym h.capacities) (capacities-small proper))))

-- those that are not due stay ahead of the clock
others-ahead : (time : ℕ) (l : List Event) → Each (λ (e : Event). time ≤ e.time) l
    → Each (λ (e : Event). time ≤ e.time) (others (due time) l)
others-ahead time l h = each-those (λ (e : Event). time ≤ e.time) _ l h

-- before the arrivals
unfoldable pub clocked : ℕ → State → State
clocked time s = set_fel (others (due time) s.fel) (set_view (set_clock time (sample (time - s.view.clock) s).view) s)

module _ (n : ℕ) (s : State) (e : Event) (l : List Event) (fel : s.fel ≡ e ∷ l) (small : n ≤ 100000001) (h : Measured n s)
    (units : Each (λ (v : Server). v.in_use ≤ 65535) s.view.servers)
    (waiters : Each (λ (q : List Transaction). length q ≤ 1024) s.ql) where
  clock-ahead : s.view.clock ≤ e.time
  clock-ahead = (subst (Each (λ (x : Event). s.view.clock ≤ x.time)) fel h.ahead.later).0

  all-later : Each (λ (x : Event). e.time ≤ x.time) s.fel
  all-later =
      let rise : Rising (e ∷ l) = subst Rising fel h.ahead.rising in
      subst (Each (λ (x : Event). e.time ≤ x.time)) (sym fel) (omega arith, rise.0)

  measured-clocked : Measured n (clocked e.time s)
  unfolding clocked sample
  measured-clocked =
      record {
        samples = h.samples;
        made = h.made;
        counter = h.counter;
        ahead = record { later = others-ahead e.time s.fel all-later; rising = rising-those _ s.fel h.ahead.rising };
        contents = sampled-contents n _ s.view.queues h.contents;
        servers = sampled-servers s.view.clock e.time s.view.servers s.ql clock-ahead units waiters h.servers;
        queues = sampled-queues n s.view.clock e.time s.view.queues clock-ahead small h.contents h.queues;
      }

-- ---- The taking

-- what the taking leaves of a state
pub record Took (n : ℕ) (s s' : State) : Type 0 where
  pub measured : Measured n s'
  pub made : s'.made ≡ s.made
  pub ended : s'.ended ≡ s.ended
  pub turns : s'.turns ≡ s.turns
  pub entries : s'.view.entries ≡ s.view.entries
  pub records : s'.records ≡ s.records
  pub written : s'.written ≡ s.written
  pub ql : s'.ql ≡ s.ql
  pub least : s.serial ≤ s'.serial
  pub serials : s'.serial ≤ s.serial + length s.fel

took-none : (n : ℕ) (s : State) → Measured n s → Took n s s
took-none n s h =
    record {
      measured = h;
      made = refl;
      ended = refl;
      turns = refl;
      entries = refl;
      records = refl;
      written = refl;
      ql = refl;
      least = omega arith;
      serials = omega arith;
    }

took-first : (n : ℕ) (l : List Transaction) (s s' : State) → Took n s s' → Took n s (take_first l s')
unfolding take_first
took-first n [] s s' k = k
took-first n (t ∷ l) s s' k =
    record {
      measured = measured_like s' _ refl refl (omega arith) refl refl refl refl refl k.measured;
      made = k.made;
      ended = k.ended;
      turns = k.turns;
      entries = k.entries;
      records = k.records;
      written = k.written;
      ql = k.ql;
      least = k.least;
      serials = k.serials;
    }

those-fewer : (p : Event → Bool) (l : List Event) → length (those p l) ≤ length l
unfolding those
those-fewer p [] = omega arith
those-fewer p (x ∷ l) =
    cond_cases (λ (k : List Event). length k ≤ suc (length l)) (p x) _ _ (λ e. omega (arith, those-fewer p l))
    (λ e. omega (arith, those-fewer p l))

-- a clock move is the sampling and then the arrivals
pub moved-clock : (time : ℕ) (s : State)
    → move_clock time s
    ≡ set_rel (arrivals (those (due time) s.fel) s.serial s.rel) (set_serial (s.serial + length (those (due time) s.fel)) (clocked time s))
unfolding move_clock clocked
moved-clock time s = arrive_all-is (those (due time) s.fel) _

module _ (n : ℕ) (s : State) (small : n ≤ 100000001) (h : Measured n s) (units : Each (λ (v : Server). v.in_use ≤ 65535) s.view.servers)
    (waiters : Each (λ (q : List Transaction). length q ≤ 1024) s.ql) where
  took_events : (l : List Event) → s.fel ≡ l → Took n s (next_events l s)
  unfolding next_events clocked sample
  took_events [] e = took-none n s h
  took_events (x ∷ l) e =
      let k : Measured n (clocked x.time s) = measured-clocked n s x l e small h units waiters in
      subst (Took n s) (sym (moved-clock x.time s))
      (record {
        measured = measured_like (clocked x.time s) _ refl refl (omega arith) refl refl refl refl refl k;
        made = refl;
        ended = refl;
        turns = refl;
        entries = refl;
        records = refl;
        written = refl;
        ql = refl;
        least = omega arith;
        serials = omega (arith, those-fewer (due x.time) s.fel);
      })

  took-ready : (l : List Transaction) → Took n s (take_ready l s)
  unfolding take_ready
  took-ready [] = took-first n _ s _ (took_events s.fel refl)
  took-ready (t ∷ l) = took-first n (t ∷ l) s s (took-none n s h)

  pub took : (o : Option Transaction) → Took n s (taking o s)
  unfolding taking
  took none = took-ready s.rel
  took (some t) = took-none n s h
