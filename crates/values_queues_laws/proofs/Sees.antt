-- What terms see of tables, tally and clock is what the machine's view holds.
use Rattle.machine.specs.All.{ℕ, zero, suc, ◌+◌, ◌≤◌, ◌<◌, ◌≡◌, sym, List, [], ◌∷◌, ◌++◌, arith, length, get_or, replicate, get_or-map, max_capacity, max_turns, Queue, idle_server, empty_queue, BlockModel, State, Each}
use Rattle.machine.proofs.Decoding.Proper.{Proper}
use Rattle.machine.proofs.Runs.Shape.{Shape, Within, capacity_of, all_capacities, each-get_or, server-length}
use Rattle.layout.specs.All.{Represents}
use Rattle.evaluation.specs.Sees.{Sees}
use Rattle.state.specs.{All.Tallying, All.Counting, declared.scalars.Scalars.Scalars}
use Rattle.state.proofs.Sane.{Sane}
use mathlib.Core.Path.{ap, ◌∙◌}

-- ---- Capacities

low : (l : List ℕ) → ((k : ℕ) → k < length l → get_or l k 0 ≤ max_capacity) → (v : ℕ) → get_or l v 0 ≤ max_capacity
low [] h v = omega arith
low (x ∷ l) h zero = h 0 (omega arith)
low (x ∷ l) h (suc v) = low l (λ k lt. h (suc k) (omega arith)) v

all-low : (n : ℕ) (l : List ℕ) → ((v : ℕ) → get_or l v 0 ≤ max_capacity) → (v : ℕ) → get_or (replicate n 1 ++ l) v 0 ≤ max_capacity
all-low zero l h v = h v
all-low (suc n) l h zero = omega arith
all-low (suc n) l h (suc v) = all-low n l h v

-- ---- The view

-- What is asked of a state: its fixtures' shape, and small numbers. The WS scheme leaves all of it.
pub record Low (m : BlockModel) (s : State) : Type 0 where
  pub shape : Shape m s
  pub turns : s.turns ≤ max_turns + 1
  pub entries : Each (λ (n : ℕ). n ≤ s.turns) s.view.entries
  pub contents : Each (λ (q : Queue). q.content ≤ s.turns) s.view.queues

pub sane-low : {m : BlockModel} {s : State} → Sane m s → Low m s
sane-low h = record { shape = h.shape; turns = h.turns; entries = h.entries; contents = h.contents }

module _ {m : BlockModel} {s : State} (lows : Low m s) where
  capacity-is : (v : ℕ) → (get_or s.view.servers v (idle_server 0)).capacity ≡ get_or (all_capacities m) v 0
  unfolding idle_server
  capacity-is v =
      sym (get_or-map capacity_of s.view.servers v (idle_server 0)) ∙ ap (λ (l : List ℕ). get_or l v 0) lows.shape.capacities

  capacity-low : {tape : List (List ℕ)} → Proper m tape → (v : ℕ) → (get_or s.view.servers v (idle_server 0)).capacity ≤ max_capacity
  capacity-low proper v =
      omega (arith, capacity-is v, all-low m.facilities m.capacities (low m.capacities (λ k lt. (proper.capacity k lt).1)) v)

  in-use-low : (v : ℕ) → (get_or s.view.servers v (idle_server 0)).in_use ≤ (get_or s.view.servers v (idle_server 0)).capacity
  unfolding idle_server
  in-use-low v = each-get_or Within s.view.servers v (idle_server 0) lows.shape.within (omega arith)

  entries-low : (b : ℕ) → get_or s.view.entries b 0 ≤ s.turns
  entries-low b = each-get_or (λ (n : ℕ). n ≤ s.turns) s.view.entries b 0 lows.entries (omega arith)

  pub content-low : (q : ℕ) → (get_or s.view.queues q empty_queue).content ≤ s.turns
  unfolding empty_queue
  content-low q =
      each-get_or (λ (a : Queue). a.content ≤ s.turns) s.view.queues q empty_queue lows.contents (omega arith)

  -- the tables and the tally show what terms read of the state
  pub sees : {tape : List (List ℕ)} {tape_bytes tables lists tally : List ℕ} (x : Scalars) → Proper m tape
      → Represents m tape tape_bytes tables lists → Tallying tape_bytes tally s
      → Counting x s
      → Sees s.view tables tally x.clock
  sees x proper rep tallying counting =
      record {
        time = sym counting.clock;
        entries =
            record {
              shown = λ b hb. sym (tallying.entries b hb);
              small = λ b hb. omega (arith, entries-low b, lows.turns);
            };
        entries-size = omega (arith, lows.shape.entry_length, proper.blocks.1);
        contents =
            record {
              shown = λ q hq. sym (tallying.queues.contents q hq);
              small = λ q hq. omega (arith, content-low q, lows.turns);
            };
        queues-size = omega (arith, lows.shape.queue-length, proper.queues);
        in_use =
            record {
              shown = λ v hv. sym (tallying.servers.in_use v hv);
              small = λ v hv. omega (arith, in-use-low v, capacity-low proper v);
            };
        capacities =
            record {
              shown = λ v hv. capacity-is v ∙ sym (rep.capacities v hv);
              small = λ v hv. omega (arith, capacity-low proper v);
            };
        servers-size = omega (arith, server-length lows.shape, proper.facilities, proper.storages);
      }
