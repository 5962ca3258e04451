-- A clock move that is only counted stands for the machine's sampled servers and queues: their sums and longest, brought up to date, are
-- the machine's. Sums of 64 bits hold them.
use Rattle.machine.specs.All.{ℕ, zero, suc, ◌+◌, ◌*◌, ◌-◌, max, ◌≤◌, ◌<◌, ◌≡◌, refl, sym, ap, ◌∙◌, ◌≢◌, List, [], ◌∷◌, map, mul-le-mul, arith, ltb-true, ltb-false, ltb, length, get_or, length-map, length-set, get_or-eq_default, get_or-set_same, get_or-set_other, max_clock, Transaction, bit, Server, Queue, idle_server, empty_queue, BlockModel, State, Each, Bool, true, false}
use Rattle.machine.specs.Turn as Machine
use Rattle.machine.proofs.{Decoding.Proper.Proper, Decoding.Proper.servers, Runs.Shape.each-get_or, Runs.Shape.server-length}
use Rattle.layout.specs.All.{most64}
use Rattle.state.specs.All.{sum_now, longest_now, Seen, Serving, Queueing, Sampling, Tallied, Tallying}
use Rattle.state.proofs.{Sane.Sane, Held.held_same, Measured.units_small}
use Rattle.state.proofs.StatisticsLaws.{seen-later, sum-later, longest-later}
use Rattle.clock.specs.{count_move}

-- ---- Numbers of 64 bits: a sum over at most as many ticks as a clock has

product_le : (n most ticks : ℕ) → n ≤ most → ticks ≤ max_clock → n * ticks ≤ most * max_clock
product_le n most ticks h k = mul-le-mul h k

-- ---- The machine's samples, one by one

abbrev sampled : ℕ → Server → List Transaction → Server
sampled ticks v q =
    record {
      capacity = v.capacity;
      in_use = v.in_use;
      holder = v.holder;
      preempted = v.preempted;
      unit_ticks = v.unit_ticks + v.in_use * ticks;
      wait_ticks = v.wait_ticks + length q * ticks;
      longest = max v.longest (length q);
    }

module _ (ticks : ℕ) (d : Server) where
  sampled-length : (l : List Server) (ql : List (List Transaction)) → length (Machine.sample_servers ticks l ql) ≡ length l
  unfolding Machine.sample_servers
  sampled-length [] ql = refl
  sampled-length (v ∷ l) [] = refl
  sampled-length (v ∷ l) (q ∷ ql) = ap suc (sampled-length l ql)

  sampled-at : (l : List Server) (ql : List (List Transaction)) (i : ℕ) → i < length l → i < length ql
      → get_or (Machine.sample_servers ticks l ql) i d ≡ sampled ticks (get_or l i d) (get_or ql i [])
  unfolding Machine.sample_servers
  sampled-at [] ql i h k = absurd (omega arith)
  sampled-at (v ∷ l) [] i h k = absurd (omega arith)
  sampled-at (v ∷ l) (q ∷ ql) zero h k = refl
  sampled-at (v ∷ l) (q ∷ ql) (suc i) h k = sampled-at l ql i (omega arith) (omega arith)

map_at : {A B : Type 0} (f : A → B) (l : List A) (i : ℕ) (a : A) (b : B) → i < length l → get_or (map f l) i b ≡ f (get_or l i a)
map_at f [] i a b h = absurd (omega arith)
map_at f (x ∷ l) zero a b h = refl
map_at f (x ∷ l) (suc i) a b h = map_at f l i a b (omega arith)

-- ---- The laws: a move to a time, in a turn that is counted already

module _ {m : BlockModel} {tape : List (List ℕ)} (proper : Proper m tape) (s : State) (sane : Sane m s) (time : ℕ)
    (on : s.view.clock ≤ time) (most : time ≤ max_clock)
    (tape_bytes t : List ℕ) (h : Tallying tape_bytes t s) (fewer : get_or t 1536 0 < s.turns) where
  abbrev n : ℕ
  n = servers m

  abbrev clock : ℕ
  clock = s.view.clock

  abbrev ticks : ℕ
  ticks = time - s.view.clock

  abbrev t' : List ℕ
  t' = count_move t

  few : ticks ≤ max_clock
  few = omega arith

  n-few : n ≤ 64
  n-few = omega (arith, proper.facilities, proper.storages)

  servers_are : length s.view.servers ≡ n
  servers_are = server-length sane.shape

  -- ---- The tally

  other : (i : ℕ) → i ≢ 1536 → get_or t' i 0 ≡ get_or t i 0
  unfolding count_move
  other i d = get_or-set_other t 1536 i _ 0 d

  moves : get_or t' 1536 0 ≡ get_or t 1536 0 + 1
  unfolding count_move
  moves = get_or-set_same t 1536 _ 0 (omega (arith, h.size)) ∙ omega (arith, sane.turns)

  below : (i : ℕ) → i < 1536 → get_or t' i 0 ≡ get_or t i 0
  below i low = other i (λ e. omega arith)

  seen : Seen t' time s.turns
  seen = seen-later t t' clock time s.turns h.seen on most below moves fewer

  sum-after : (at from i : ℕ) → i < 96 → at < 1344 → from < 1344 → (sum k : ℕ) → sum_now t at from i clock ≡ sum → get_or t from 0 ≡ k
      → k ≤ 100000001 → sum + k * ticks < most64
      → sum_now t' at from i time ≡ sum + k * ticks
  sum-after at from i hi a f = sum-later t t' clock time s.turns h.seen on most below moves at from i hi (omega arith) (omega arith)

  longest-after : (at from i : ℕ) → i < 96 → at < 1344 → from < 1344 → (longest k : ℕ) → longest_now t at from i ≡ longest
      → get_or t from 0 ≡ k → longest_now t' at from i ≡ max longest k
  longest-after at from i hi a f =
      longest-later t t' clock time s.turns h.seen on most below moves at from i hi (omega arith) (omega arith)

  -- ---- Servers

  abbrev server : ℕ → Server
  server v = get_or s.view.servers v (idle_server 0)

  abbrev line : ℕ → List Transaction
  line v = get_or s.ql v []

  abbrev after : ℕ → Server
  after v = get_or (Machine.sample_servers ticks s.view.servers s.ql) v (idle_server 0)

  -- what holds of each server holds of one that is there
  of-server : (P : Server → Type 0) → Each P s.view.servers → P (idle_server 0) → (v : ℕ) → P (server v)
  of-server P e p v = each-get_or P s.view.servers v (idle_server 0) e p

  units-few : (v : ℕ) → (server v).in_use ≤ 65535
  unfolding idle_server
  units-few = of-server (λ v. v.in_use ≤ 65535) (units_small proper s sane.shape) (omega arith)

  waiters-few : (v : ℕ) → length (line v) ≤ 1024
  waiters-few v = each-get_or (λ (l : List Transaction). length l ≤ 1024) s.ql v [] sane.waiting (omega arith)

  unit-sum : (v : ℕ) → (server v).unit_ticks ≤ 65535 * max_clock
  unfolding idle_server
  unit-sum v = omega (arith, of-server (λ x. x.unit_ticks ≤ 65535 * s.view.clock) sane.unit-ticks (omega arith) v, sane.timely.clock)

  wait-sum : (v : ℕ) → (server v).wait_ticks ≤ 1024 * max_clock
  unfolding idle_server
  wait-sum v = omega (arith, of-server (λ x. x.wait_ticks ≤ 1024 * s.view.clock) sane.wait-ticks (omega arith) v, sane.timely.clock)

  -- the machine's server after the move
  record After (v : ℕ) : Type 0 where
    in_use : (after v).in_use ≡ (server v).in_use
    holder : (after v).holder ≡ (server v).holder
    preempted : bit (after v).preempted ≡ bit (server v).preempted
    units : (after v).unit_ticks ≡ (server v).unit_ticks + (server v).in_use * ticks
    waits : (after v).wait_ticks ≡ (server v).wait_ticks + length (line v) * ticks
    longest : (after v).longest ≡ max (server v).longest (length (line v))

  after-there : (v : ℕ) → v < n → After v
  after-there v hv =
      let is : after v ≡ sampled ticks (server v) (line v) =
      sampled-at ticks (idle_server 0) s.view.servers s.ql v (omega (arith, servers_are)) (omega (arith, sane.shape.ql-length)) in
      record {
        in_use = ap (λ x. x.in_use) is;
        holder = ap (λ x. x.holder) is;
        preempted = ap (λ x. bit x.preempted) is;
        units = ap (λ x. x.unit_ticks) is;
        waits = ap (λ x. x.wait_ticks) is;
        longest = ap (λ x. x.longest) is;
      }

  after_none : (v : ℕ) → n ≤ v → After v
  unfolding idle_server
  after_none v le =
      let is : server v ≡ idle_server 0 = get_or-eq_default s.view.servers (idle_server 0) {n = v} (omega (arith, servers_are)) in
      let is' : after v ≡ idle_server 0 =
      get_or-eq_default (Machine.sample_servers ticks s.view.servers s.ql) (idle_server 0) {n = v}
      (omega (arith, sampled-length ticks (idle_server 0) s.view.servers s.ql, servers_are)) in
      let none : line v ≡ [] = get_or-eq_default s.ql [] {n = v} (omega (arith, sane.shape.ql-length)) in
      record {
        in_use = ap (λ x. x.in_use) (is' ∙ sym is);
        holder = ap (λ x. x.holder) (is' ∙ sym is);
        preempted = ap (λ x. bit x.preempted) (is' ∙ sym is);
        units = omega (arith, ap (λ x. x.unit_ticks) is', ap (λ x. x.unit_ticks) is, ap (λ x. x.in_use * ticks) is);
        waits = omega (arith, ap (λ x. x.wait_ticks) is', ap (λ x. x.wait_ticks) is, ap (λ (l : List Transaction). length l * ticks) none);
        longest = omega (arith, ap (λ x. x.longest) is', ap (λ x. x.longest) is, ap (λ (l : List Transaction). length l) none);
      }

  after-at : (v : ℕ) → After v
  after-at v = go (ltb v n) refl
    where
      go : (b : Bool) → ltb v n ≡ b → After v
      go true e = after-there v (ltb-true v n e)
      go false e = after_none v (ltb-false v n e)

  serving : Serving t' time (Machine.sample_servers ticks s.view.servers s.ql) s.ql
  serving =
      record {
        in_use = λ v hv. other (512 + v) (λ e. omega arith) ∙ h.servers.in_use v hv ∙ sym (after-at v).in_use;
        holders = λ v hv. other (960 + v) (λ e. omega arith) ∙ h.servers.holders v hv ∙ sym (after-at v).holder;
        preempts = λ v hv. other (1024 + v) (λ e. omega arith) ∙ h.servers.preempts v hv ∙ sym (after-at v).preempted;
        held = λ r hr.
            other (1088 + r) (λ e. omega arith) ∙ h.servers.held r hr
            ∙ sym (held_same r (Machine.sample_servers ticks s.view.servers s.ql) s.view.servers (λ v hv. (after-at v).holder));
        unit-ticks = λ v hv.
            sum-after (576 + v) (512 + v) v (omega arith) (omega arith) (omega arith) (server v).unit_ticks (server v).in_use
            (h.servers.unit-ticks v hv) (h.servers.in_use v hv) (omega (arith, units-few v))
            (omega (arith, unit-sum v, product_le (server v).in_use 65535 ticks (units-few v) few))
            ∙ sym (after-at v).units;
        wait-ticks = λ v hv.
            sum-after (640 + v) (768 + v) v (omega arith) (omega arith) (omega arith) (server v).wait_ticks (length (line v))
            (h.servers.wait-ticks v hv) (h.servers.waiting v hv) (omega (arith, waiters-few v))
            (omega (arith, wait-sum v, product_le (length (line v)) 1024 ticks (waiters-few v) few))
            ∙ sym (after-at v).waits;
        longest = λ v hv.
            longest-after (704 + v) (768 + v) v (omega arith) (omega arith) (omega arith) (server v).longest (length (line v))
            (h.servers.longest v hv) (h.servers.waiting v hv)
            ∙ sym (after-at v).longest;
        waiting = λ v hv. other (768 + v) (λ e. omega arith) ∙ h.servers.waiting v hv;
      }

  -- ---- Queues

  abbrev queue : ℕ → Queue
  queue q = get_or s.view.queues q empty_queue

  abbrev queue-after : ℕ → Queue
  queue-after q = get_or (map (Machine.sample_queue ticks) s.view.queues) q empty_queue

  of-queue : (P : Queue → Type 0) → Each P s.view.queues → P empty_queue → (q : ℕ) → P (queue q)
  of-queue P e p q = each-get_or P s.view.queues q empty_queue e p

  content-few : (q : ℕ) → (queue q).content ≤ 100000001
  unfolding empty_queue
  content-few q = omega (arith, of-queue (λ x. x.content ≤ s.turns) sane.contents (omega arith) q, sane.turns)

  content-sum : (q : ℕ) → (queue q).content_ticks ≤ 100000001 * max_clock
  unfolding empty_queue
  content-sum q =
      omega (arith, of-queue (λ x. x.content_ticks ≤ 100000001 * s.view.clock) sane.content-ticks (omega arith) q, sane.timely.clock)

  record QueueAfter (q : ℕ) : Type 0 where
    contents : (queue-after q).content ≡ (queue q).content
    sums : (queue-after q).content_ticks ≡ (queue q).content_ticks + (queue q).content * ticks
    longest : (queue-after q).longest ≡ max (queue q).longest (queue q).content

  queue-there : (q : ℕ) → q < m.queues → QueueAfter q
  unfolding Machine.sample_queue
  queue-there q hq =
      let is : queue-after q ≡ Machine.sample_queue ticks (queue q) =
      map_at (Machine.sample_queue ticks) s.view.queues q empty_queue empty_queue (omega (arith, sane.shape.queue-length)) in
      record { contents = ap (λ x. x.content) is; sums = ap (λ x. x.content_ticks) is; longest = ap (λ x. x.longest) is }

  queue-none : (q : ℕ) → m.queues ≤ q → QueueAfter q
  unfolding empty_queue
  queue-none q le =
      let is : queue q ≡ empty_queue = get_or-eq_default s.view.queues empty_queue {n = q}
      (omega (arith, sane.shape.queue-length)) in
      let is' : queue-after q ≡ empty_queue =
      get_or-eq_default (map (Machine.sample_queue ticks) s.view.queues) empty_queue {n = q}
      (omega (arith, length-map s.view.queues (Machine.sample_queue ticks), sane.shape.queue-length)) in
      record {
        contents = ap (λ x. x.content) (is' ∙ sym is);
        sums = omega (arith, ap (λ x. x.content_ticks) is', ap (λ x. x.content_ticks) is, ap (λ x. x.content * ticks) is);
        longest = omega (arith, ap (λ x. x.longest) is', ap (λ x. x.longest) is, ap (λ x. x.content) is);
      }

  queue-at : (q : ℕ) → QueueAfter q
  queue-at q = go (ltb q m.queues) refl
    where
      go : (b : Bool) → ltb q m.queues ≡ b → QueueAfter q
      go true e = queue-there q (ltb-true q m.queues e)
      go false e = queue-none q (ltb-false q m.queues e)

  queueing : Queueing t' time (map (Machine.sample_queue ticks) s.view.queues)
  queueing =
      record {
        contents = λ q hq. other (832 + q) (λ e. omega arith) ∙ h.queues.contents q hq ∙ sym (queue-at q).contents;
        content-ticks = λ q hq.
            sum-after (864 + q) (832 + q) (64 + q) (omega arith) (omega arith) (omega arith) (queue q).content_ticks (queue q).content
            (h.queues.content-ticks q hq) (h.queues.contents q hq) (content-few q)
            (omega (arith, content-sum q, product_le (queue q).content 100000001 ticks (content-few q) few))
            ∙ sym (queue-at q).sums;
        longest = λ q hq.
            longest-after (896 + q) (832 + q) (64 + q) (omega arith) (omega arith) (omega arith) (queue q).longest (queue q).content
            (h.queues.longest q hq) (h.queues.contents q hq)
            ∙ sym (queue-at q).longest;
      }

  -- ---- All

  sampling : Sampling tape_bytes t' s.samples
  sampling =
      record {
        begins = λ l hl. rw (other (928 + l) (λ e. omega (arith, few-lists))) (h.samples.begins l hl);
        left = λ l hl. other (944 + l) (λ e. omega arith) ∙ h.samples.left l hl;
      }
    where
      few-lists : length s.samples ≤ 16
      few-lists = omega (arith, sane.shape.sample-lists, proper.lists)

  pub tally-moved : Tallied tape_bytes (count_move t)
      (record {
        clock = time;
        entries = s.view.entries;
        queues = map (Machine.sample_queue ticks) s.view.queues;
        servers = Machine.sample_servers ticks s.view.servers s.ql;
      })
      s.ql s.samples s.turns s.records
  unfolding count_move
  tally-moved =
      record {
        size = length-set t 1536 _ ∙ h.size;
        entries = λ b hb. other (0 + b) (λ f. omega arith) ∙ h.entries b hb;
        waits = λ b hb. other (256 + b) (λ f. omega arith) ∙ h.waits b hb;
        seen = seen;
        servers = serving;
        queues = queueing;
        samples = sampling;
      }
