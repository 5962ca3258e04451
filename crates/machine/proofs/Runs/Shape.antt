-- The fixtures of the machine keep their shape in every state of a run: as many queue lists, waiting lists, servers, queues,
-- entries and sample lists as the model says, each server of its capacity and never in use beyond it.
use Rattle.machine.specs.All.{ℕ, zero, suc, ◌+◌, ◌*◌, ◌-◌, ◌≤◌, ◌<◌, ◌≡◌, refl, sym, ap, ◌∙◌, Bool, true≢false, List, [], ◌∷◌, ◌++◌, map, arith, ltb-true, ltb-false, ltb, length, get_or, set, replicate, length-set, length-map, length-append, length-replicate, get_or-replicate, get_or-map, get_or-append, map-set_same, Transaction, Gatherer, nth, set_nth, Server, View, Queue, idle_server, server_at, Code, U, NU, E, NE, F, NF, code_index, assemble, facts, BlockModel, block_at, wel_index, State, with_use, set_clock, set_entries, set_queues, set_servers, set_use, sample_servers, sample_queue, sample, turn, idle, start, Each, true, false, Block, terminate}
use Rattle.machine.proofs as our
use our.Decoding.Proper.{servers}
use our.Runs.Kept.{Closed, turn-kept, start-kept}
use our.Basic.Each.{each_append}
pub use Rattle.machine.proofs.Basic.Each.{each_set, each-get_or}

-- ---- Definition

abbrev pub Within : Server → Type 0
Within v = v.in_use ≤ v.capacity

abbrev pub capacity_of : Server → ℕ
capacity_of v = v.capacity

-- "a facility is one of capacity 1"; the storages come after them
abbrev pub all_capacities : BlockModel → List ℕ
all_capacities m = replicate m.facilities 1 ++ m.capacities

pub record Shaped (m : BlockModel) (w : View) (ql wel : List (List Transaction)) (gatherers : List (List Gatherer))
    (samples : List (List ℕ)) : Type 0 where
  pub ql-length : length ql ≡ servers m
  pub wel-length : length wel ≡ servers m * 6
  -- one list for each block
  pub gatherer-length : length gatherers ≡ length m.blocks
  pub sample-lists : length samples ≡ m.lists
  pub entry_length : length w.entries ≡ length m.blocks
  pub queue-length : length w.queues ≡ m.queues
  pub capacities : map capacity_of w.servers ≡ all_capacities m
  pub within : Each Within w.servers

abbrev pub Shape : BlockModel → State → Type 0
Shape m s = Shaped m s.view s.ql s.wel s.gatherers s.samples

-- ---- Lists of which each passes

get_d_past : {A : Type 0} (l : List A) (i : ℕ) (d : A) → length l ≤ i → get_or l i d ≡ d
get_d_past [] i d h = refl
get_d_past (x ∷ l) zero d h = absurd (omega arith)
get_d_past (x ∷ l) (suc i) d h = get_d_past l i d (omega arith)

code_below : (code : Code) → code_index code < 6
unfolding code_index
code_below U = omega arith
code_below NU = omega arith
code_below E = omega arith
code_below NE = omega arith
code_below F = omega arith
code_below NF = omega arith

-- the six lists of a server stand behind those of the servers before it
pub wel-below : (v : ℕ) (code : Code) (n : ℕ) → 1 ≤ v → v ≤ n → wel_index v code < n * 6
unfolding wel_index
wel-below v code n low high = omega (arith, code_below code)

-- ---- Statistics change neither capacity nor use

sampled-capacities : (ticks : ℕ) (l : List Server) (ql : List (List Transaction))
    → map capacity_of (sample_servers ticks l ql) ≡ map capacity_of l
unfolding sample_servers
sampled-capacities ticks [] ql = refl
sampled-capacities ticks (v ∷ l) [] = refl
sampled-capacities ticks (v ∷ l) (q ∷ ql) = ap {B = List ℕ} (λ r. v.capacity ∷ r) (sampled-capacities ticks l ql)

sampled-within : (ticks : ℕ) (l : List Server) (ql : List (List Transaction)) → Each Within l → Each Within (sample_servers ticks l ql)
unfolding sample_servers
sampled-within ticks [] ql h = tt
sampled-within ticks (v ∷ l) [] h = h
sampled-within ticks (v ∷ l) (q ∷ ql) h = (h.0, sampled-within ticks l ql h.1)

-- ---- Idle servers

idle-storages : (l : List ℕ) → Each Within (map idle_server l)
unfolding idle_server
idle-storages [] = tt
idle-storages (c ∷ l) = (omega arith, idle-storages l)

idle-facilities : (n : ℕ) → Each Within (replicate n (idle_server 1))
unfolding idle_server
idle-facilities zero = tt
idle-facilities (suc n) = (omega arith, idle-facilities n)

map-idle : (l : List ℕ) → map capacity_of (map idle_server l) ≡ l
unfolding idle_server
map-idle [] = refl
map-idle (c ∷ l) = ap {B = List ℕ} (λ r. c ∷ r) (map-idle l)

idle-capacities : (n : ℕ) (l : List ℕ) → map capacity_of (replicate n (idle_server 1) ++ map idle_server l) ≡ replicate n 1 ++ l
unfolding idle_server
idle-capacities zero l = map-idle l
idle-capacities (suc n) l = ap {B = List ℕ} (λ r. 1 ∷ r) (idle-capacities n l)

-- ---- What follows

module _ {m : BlockModel} {w : View} {ql wel : List (List Transaction)} {gatherers : List (List Gatherer)} {samples : List (List ℕ)}
    (h : Shaped m w ql wel gatherers samples) where
  pub server-length : length w.servers ≡ servers m
  server-length =
      sym (length-map w.servers capacity_of) ∙ ap length h.capacities ∙ length-append (replicate m.facilities 1) m.capacities
      ∙ ap (λ n. n + length m.capacities) (length-replicate m.facilities 1)

  -- of any server, also of one that does not exist
  pub server-within : (v : ℕ) → (server_at w v).in_use ≤ (server_at w v).capacity
  unfolding server_at idle_server
  server-within v = each-get_or Within w.servers (v - 1) (idle_server 0) h.within (omega arith)

  capacity-at : (v : ℕ) → (server_at w v).capacity ≡ nth (all_capacities m) v 0
  unfolding server_at idle_server
  capacity-at v = sym (get_or-map capacity_of w.servers (v - 1) (idle_server 0)) ∙ ap (λ l. nth l v 0) h.capacities

  -- a facility is a server of one unit
  pub facility-capacity : (v : ℕ) → 1 ≤ v → v ≤ m.facilities → (server_at w v).capacity ≡ 1
  facility-capacity v low high =
      capacity-at v ∙ get_or-append (replicate m.facilities 1) m.capacities 0 (v - 1) (simp length-replicate (omega arith))
      ∙ get_or-replicate m.facilities (v - 1) 1 0 (omega arith)

  pub ql-at : (v : ℕ) → 1 ≤ v → v ≤ servers m → v - 1 < length ql
  ql-at v low high = omega (arith, h.ql-length)

  pub wel-at : (v : ℕ) (code : Code) → 1 ≤ v → v ≤ servers m → wel_index v code < length wel
  wel-at v code low high = omega (arith, h.wel-length, wel-below v code (servers m) low high)

  no_last : {n : ℕ} → terminate 0 ≡ assemble n → ⊥
  unfolding facts
  no_last e = true≢false (ap (λ (b : Block). (facts b).leaves) e)

  -- an ASSEMBLE has a list
  pub gatherers-at : (b n : ℕ) → block_at m b ≡ assemble n → b - 1 < length gatherers
  gatherers-at b n e = go (ltb (b - 1) (length m.blocks)) refl
    where
      go : (x : Bool) → ltb (b - 1) (length m.blocks) ≡ x → b - 1 < length gatherers
      go true q = omega (arith, h.gatherer-length, ltb-true (b - 1) (length m.blocks) q)
      go false q =
          absurd (no_last (sym (get_d_past m.blocks (b - 1) (terminate 0) (ltb-false (b - 1) (length m.blocks) q)) ∙ e))

  pub samples-at : (list : ℕ) → 1 ≤ list → list ≤ m.lists → list - 1 < length samples
  samples-at list low high = omega (arith, h.sample-lists)

  -- ---- Kept by changes of the fixtures

  pub shape-entries : (i n : ℕ) → Shaped m (set_entries (set w.entries i n) w) ql wel gatherers samples
  shape-entries i n =
      record {
        ql-length = h.ql-length;
        wel-length = h.wel-length;
        gatherer-length = h.gatherer-length;
        sample-lists = h.sample-lists;
        entry_length = length-set w.entries i n ∙ h.entry_length;
        queue-length = h.queue-length;
        capacities = h.capacities;
        within = h.within;
      }

  pub shape-queues : (i : ℕ) (q : Queue) → Shaped m (set_queues (set w.queues i q) w) ql wel gatherers samples
  shape-queues i q =
      record {
        ql-length = h.ql-length;
        wel-length = h.wel-length;
        gatherer-length = h.gatherer-length;
        sample-lists = h.sample-lists;
        entry_length = h.entry_length;
        queue-length = length-set w.queues i q ∙ h.queue-length;
        capacities = h.capacities;
        within = h.within;
      }

  -- the one change of a server that a claim of its size must allow for
  pub shape-units : (v n holder : ℕ) (preempted : Bool) → n ≤ (server_at w v).capacity
      → Shaped m (set_servers (set_nth w.servers v (with_use n holder preempted (server_at w v))) w) ql wel gatherers samples
  unfolding server_at
  shape-units v n holder preempted le =
      record {
        ql-length = h.ql-length;
        wel-length = h.wel-length;
        gatherer-length = h.gatherer-length;
        sample-lists = h.sample-lists;
        entry_length = h.entry_length;
        queue-length = h.queue-length;
        capacities = map-set_same capacity_of w.servers (v - 1) _ (idle_server 0) refl ∙ h.capacities;
        within = each_set Within w.servers (v - 1) _ h.within le;
      }

  pub shape-ql : (i : ℕ) (l : List Transaction) → Shaped m w (set ql i l) wel gatherers samples
  shape-ql i l =
      record {
        ql-length = length-set ql i l ∙ h.ql-length;
        wel-length = h.wel-length;
        gatherer-length = h.gatherer-length;
        sample-lists = h.sample-lists;
        entry_length = h.entry_length;
        queue-length = h.queue-length;
        capacities = h.capacities;
        within = h.within;
      }

  pub shape-wel : (i : ℕ) (l : List Transaction) → Shaped m w ql (set wel i l) gatherers samples
  shape-wel i l =
      record {
        ql-length = h.ql-length;
        wel-length = length-set wel i l ∙ h.wel-length;
        gatherer-length = h.gatherer-length;
        sample-lists = h.sample-lists;
        entry_length = h.entry_length;
        queue-length = h.queue-length;
        capacities = h.capacities;
        within = h.within;
      }

  pub shape-gatherers : (i : ℕ) (l : List Gatherer) → Shaped m w ql wel (set gatherers i l) samples
  shape-gatherers i l =
      record {
        ql-length = h.ql-length;
        wel-length = h.wel-length;
        gatherer-length = length-set gatherers i l ∙ h.gatherer-length;
        sample-lists = h.sample-lists;
        entry_length = h.entry_length;
        queue-length = h.queue-length;
        capacities = h.capacities;
        within = h.within;
      }

  pub shape-samples : (i : ℕ) (l : List ℕ) → Shaped m w ql wel gatherers (set samples i l)
  shape-samples i l =
      record {
        ql-length = h.ql-length;
        wel-length = h.wel-length;
        gatherer-length = h.gatherer-length;
        sample-lists = length-set samples i l ∙ h.sample-lists;
        entry_length = h.entry_length;
        queue-length = h.queue-length;
        capacities = h.capacities;
        within = h.within;
      }

  -- sampling changes sums alone
  pub shape-clock : (time ticks : ℕ)
      → Shaped m
      (set_clock time
      (set_queues (map (sample_queue ticks) w.queues) (set_servers (sample_servers ticks w.servers ql) w))) ql wel gatherers samples
  shape-clock time ticks =
      record {
        ql-length = h.ql-length;
        wel-length = h.wel-length;
        gatherer-length = h.gatherer-length;
        sample-lists = h.sample-lists;
        entry_length = h.entry_length;
        queue-length = length-map w.queues (sample_queue ticks) ∙ h.queue-length;
        capacities = sampled-capacities ticks w.servers ql ∙ h.capacities;
        within = sampled-within ticks w.servers ql h.within;
      }

-- ---- Kept by every turn

module _ (m : BlockModel) where
  pub shape_closed : Closed (Shape m)
  unfolding set_use sample
  shape_closed =
      record {
        entries = λ i n s h. shape-entries h i n;
        queues = λ i q s h. shape-queues h i q;
        units = λ v n holder preempted s le h. shape-units h v n holder preempted (le (server-within h v));
        clock = λ time ticks s h. shape-clock h time ticks;
        ql = λ i l s h. shape-ql h i l;
        wel = λ i l s h. shape-wel h i l;
        samples = λ i l s h. shape-samples h i l;
        wsl = λ l s h. h;
        rel = λ l s h. h;
        fel = λ l s h. h;
        gatherers = λ i l s h. shape-gatherers h i l;
        interrupted = λ l s h. h;
        moving = λ o s h. h;
        serial = λ n s h. h;
        counter = λ n s h. h;
        made = λ n s h. h;
        ended = λ n s h. h;
        written = λ n r s h. h;
        stop = λ n s e h. h;
      }

  pub shape-turn : (s : State) → Shape m s → Shape m (turn m s)
  shape-turn s h = turn-kept (Shape m) (Shape m) shape_closed shape_closed m s (λ s' h. h) h

  -- ---- The whole run

  shape-idle : (tape : List (List ℕ)) → length tape ≡ m.lists → Shape m (idle m tape)
  unfolding idle
  shape-idle tape e =
      record {
        ql-length = length-replicate _ _;
        wel-length = length-replicate _ _;
        gatherer-length = length-replicate _ _;
        sample-lists = e;
        entry_length = length-replicate _ _;
        queue-length = length-replicate _ _;
        capacities = idle-capacities m.facilities m.capacities;
        within =
            each_append Within (replicate m.facilities (idle_server 1)) _ (idle-facilities m.facilities)
            (idle-storages m.capacities);
      }

  pub shape-start : (tape : List (List ℕ)) → length tape ≡ m.lists → Shape m (start m tape)
  shape-start tape e = start-kept (Shape m) shape_closed m tape (shape-idle tape e)
