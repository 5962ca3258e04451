-- How far one block moves the counts: at most so many transactions made, serials given and queue places filled; clock, entries,
-- records and the sums of the statistics stay, and every move time is at or past the clock.
use Rattle.machine.specs.All.{ℕ, zero, suc, ◌+◌, ◌≤◌, ◌≡◌, ◌∙◌, List, [], ◌∷◌, map, arith, set, in_force, Server, Queue, State, Each}
use Rattle.machine.proofs.{Runs.Ahead.Ahead, Runs.RunLaws.each_map, Runs.Clocks.Samples}
use mathlib.Core.Path.{sym, subst}

-- ---- Lists of which each passes

pub each_set : {A : Type 0} (P : A → Type 0) (l : List A) (i : ℕ) (a : A) → Each P l → P a → Each P (set l i a)
each_set P [] i a h p = tt
each_set P (x ∷ l) zero a h p = (p, h.1)
each_set P (x ∷ l) (suc i) a h p = (h.0, each_set P l i a h.1 p)

pub map_each : {A B : Type 0} (f : A → B) (P : B → Type 0) (l : List A) → Each (λ a. P (f a)) l → Each P (map f l)
map_each f P [] h = tt
map_each f P (x ∷ l) h = (h.0, map_each f P l h.1)

pub each_mapped : {A B : Type 0} (f : A → B) (P : B → Type 0) (l : List A) → Each P (map f l) → Each (λ a. P (f a)) l
each_mapped f P [] h = tt
each_mapped f P (x ∷ l) h = (h.0, each_mapped f P l h.1)

-- what is read of each member is the same in both lists
pub each-alike : {A B : Type 0} (f : A → B) (P : B → Type 0) (l l' : List A) → map f l' ≡ map f l → Each (λ a. P (f a)) l
    → Each (λ a. P (f a)) l'
each-alike f P l l' e h = each_mapped f P l' (subst (Each P) (sym e) (map_each f P l h))

-- ---- Definition

-- what a clock move sums
pub record Sums : Type 0 where
  pub units : ℕ
  pub waited : ℕ
  pub longest : ℕ

abbrev pub server_sums : Server → Sums
server_sums v = record { units = v.unit_ticks; waited = v.wait_ticks; longest = v.longest }

abbrev pub queue_sums : Queue → Sums
queue_sums q = record { units = q.content_ticks; waited = 0; longest = q.longest }

-- at most j made, k serials given, c more in a queue
pub record Gains (j k c : ℕ) (s s' : State) : Type 0 where
  pub clock : s'.view.clock ≡ s.view.clock
  pub turns : s'.turns ≡ s.turns
  pub entries : s'.view.entries ≡ s.view.entries
  pub records : s'.records ≡ s.records
  pub written : s'.written ≡ s.written
  pub counter : s'.counter ≤ s.counter
  pub made : s'.made ≤ s.made + j
  pub ended : s.ended ≤ s'.ended
  -- a serial for each one made
  pub pace : s'.made + s.serial ≤ s'.serial + s.made
  pub serials : s'.serial ≤ s.serial + k
  pub samples : Samples in_force.max_time s → Samples in_force.max_time s'
  pub ahead : Ahead s → Ahead s'
  pub servers : map server_sums s'.view.servers ≡ map server_sums s.view.servers
  pub queues : map queue_sums s'.view.queues ≡ map queue_sums s.view.queues
  pub contents : (n : ℕ) → Each (λ (q : Queue). q.content ≤ n) s.view.queues
      → Each (λ (q : Queue). q.content ≤ n + c) s'.view.queues

-- ---- One after the other

pub more : (n c : ℕ) (l : List Queue) → Each (λ (q : Queue). q.content ≤ n) l → Each (λ (q : Queue). q.content ≤ n + c) l
more n c l h = each_map (λ q (le : q.content ≤ n). omega arith) l h

-- one after the other, the gains add up
pub gains_trans : {j k c j' k' c' : ℕ} {a b d : State} → Gains j k c a b → Gains j' k' c' b d → Gains (j + j') (k + k') (c + c') a d
gains_trans {c = c} {c' = c'} {d = d} g h =
    record {
      clock = h.clock ∙ g.clock;
      turns = h.turns ∙ g.turns;
      entries = h.entries ∙ g.entries;
      records = h.records ∙ g.records;
      written = h.written ∙ g.written;
      counter = omega arith;
      made = omega arith;
      ended = omega arith;
      pace = omega arith;
      serials = omega arith;
      samples = λ x. h.samples (g.samples x);
      ahead = λ x. h.ahead (g.ahead x);
      servers = h.servers ∙ g.servers;
      queues = h.queues ∙ g.queues;
      contents = λ n x. each_map (λ q (le : q.content ≤ n + c + c'). omega arith) d.view.queues (h.contents (n + c) (g.contents n x));
    }

pub gains-most : {j k c : ℕ} (j' k' c' : ℕ) {a b : State} → j ≤ j' → k ≤ k' → c ≤ c' → Gains j k c a b → Gains j' k' c' a b
gains-most {c = c} j' k' c' {b = b} hj hk hc g =
    record {
      clock = g.clock;
      turns = g.turns;
      entries = g.entries;
      records = g.records;
      written = g.written;
      counter = g.counter;
      made = omega arith;
      ended = g.ended;
      pace = g.pace;
      serials = omega arith;
      samples = g.samples;
      ahead = g.ahead;
      servers = g.servers;
      queues = g.queues;
      contents = λ n x. each_map (λ q (le : q.content ≤ n + c). omega arith) b.view.queues (g.contents n x);
    }
