-- What validation gives of a model and its tape: each operand lies in its field's range.
use Rattle.machine.specs.All.{ℕ, ◌+◌, ◌≤◌, ◌<◌, ◌≡◌, refl, List, [], arith, T, length, get_or, max_blocks, max_capacity, max_facilities, max_storages, max_queues, max_lists, max_priority, max_samples, max_split, max_back, max_assemble, max_counter, parameter_count, nth, Code, U, NU, E, NE, F, NF, Share, facility, storage, share_server, Block, generate, advance, terminate, takes, frees, wait_server, wait_terms, moves, assign, priority, split, counts, assemble, preempt, give_back, facts, BlockModel, block_at, well_formed}

-- from 1 to n
abbrev pub Names : ℕ → ℕ → Type 0
Names n k = (1 ≤ k) × (k ≤ n)

abbrev pub servers : BlockModel → ℕ
servers m = m.facilities + length m.capacities

-- a storage, by its server number
abbrev pub Storage : BlockModel → ℕ → Type 0
Storage m v = (m.facilities < v) × (v ≤ servers m)

-- codes 1 and 2 name a facility, the others a storage
abbrev pub CodeServer : BlockModel → Code → ℕ → Type 0
CodeServer m U v = Names m.facilities v
CodeServer m NU v = Names m.facilities v
CodeServer m E v = Storage m v
CodeServer m NE v = Storage m v
CodeServer m F v = Storage m v
CodeServer m NF v = Storage m v

-- the capacity of the storage with server number v is nth capacities (v - facilities); ENTER and LEAVE take at most that
abbrev pub Units : BlockModel → ℕ → ℕ → Type 0
Units m v b = (1 ≤ b) × ((k : ℕ) → v ≡ m.facilities + k → b ≤ nth m.capacities k 0)

abbrev pub ProperShare : BlockModel → Share → Type 0
ProperShare m (facility v) = Names m.facilities v
ProperShare m (storage v b) = Storage m v × Units m v b

abbrev pub ProperBlock : BlockModel → Block → Type 0
ProperBlock m (generate list p) = Names m.lists list × (p ≤ max_priority)
ProperBlock m (advance list) = Names m.lists list
ProperBlock m (terminate a) = Unit {0}
ProperBlock m (takes x) = ProperShare m x
ProperBlock m (frees x) = ProperShare m x
ProperBlock m (wait_server code v c) = CodeServer m code v × (c ≤ max_back)
ProperBlock m (wait_terms a r b) = Unit {0}
ProperBlock m (moves c target) = Names (length m.blocks) target
ProperBlock m (assign k a) = Names parameter_count k
ProperBlock m (priority p) = p ≤ max_priority
ProperBlock m (split n target) = Names max_split n × Names (length m.blocks) target
ProperBlock m (counts c q) = Names m.queues q
ProperBlock m (assemble n) = (2 ≤ n) × (n ≤ max_assemble)
ProperBlock m (preempt f) = Names m.facilities f
ProperBlock m (give_back f) = Names m.facilities f

-- the server that a status code asks of, or that a share is of, exists
pub code-server : (m : BlockModel) (code : Code) (v : ℕ) → CodeServer m code v → Names (servers m) v
code-server m U v h = (h.0, omega arith)
code-server m NU v h = (h.0, omega arith)
code-server m E v h = (omega arith, h.1)
code-server m NE v h = (omega arith, h.1)
code-server m F v h = (omega arith, h.1)
code-server m NF v h = (omega arith, h.1)

-- facilities come first and storages behind them, so both are servers of the model
pub share-server : (m : BlockModel) (x : Share) → ProperShare m x → Names (servers m) (share_server x)
unfolding share_server
share-server m (facility v) h = (h.0, omega arith)
share-server m (storage v b) h = (omega arith, h.0.1)

-- ---- Which blocks make transactions, and which take a server

pub data Role : Block → Type 0 where
  generating : (list p : ℕ) → Role (generate list p)
  taking : (x : Share) → Role (takes x)
  preempting : (f : ℕ) → Role (preempt f)
  neither : {b : Block} → (facts b).generates ≡ 0 → (facts b).server ≡ 0 → Role b

pub role : (b : Block) → Role b
unfolding facts
role (generate list p) = generating list p
role (advance list) = neither refl refl
role (terminate a) = neither refl refl
role (takes x) = taking x
role (frees x) = neither refl refl
role (wait_server code v c) = neither refl refl
role (wait_terms a r b) = neither refl refl
role (moves c target) = neither refl refl
role (assign k a) = neither refl refl
role (priority p) = neither refl refl
role (split n target) = neither refl refl
role (counts c q) = neither refl refl
role (assemble n) = neither refl refl
role (preempt f) = preempting f
role (give_back f) = neither refl refl

-- a GENERATE names a list and a priority; other blocks have rank 0
pub generates-list : (m : BlockModel) (b : Block) → ProperBlock m b → ((facts b).generates ≡ 0 → ⊥)
    → Names m.lists (facts b).generates × ((facts b).rank ≤ max_priority)
generates-list m b h n = go (role b) h n
  where
    go : {b : Block} → Role b → ProperBlock m b → ((facts b).generates ≡ 0 → ⊥)
        → Names m.lists (facts b).generates × ((facts b).rank ≤ max_priority)
    go (generating list p) h n = unfold facts in h
    go (taking x) h n = absurd (n (unfold facts in refl))
    go (preempting f) h n = absurd (n (unfold facts in refl))
    go (neither e z) h n = absurd (n e)

pub record Proper (m : BlockModel) (tape : List (List ℕ)) : Type 0 where
  -- of every block; the block that `block_at` gives past the end asks nothing
  pub block : (n : ℕ) → ProperBlock m (block_at m n)
  pub blocks : Names max_blocks (length m.blocks)
  pub facilities : m.facilities ≤ max_facilities
  pub storages : length m.capacities ≤ max_storages
  pub capacity : (k : ℕ) → k < length m.capacities → Names max_capacity (get_or m.capacities k 0)
  pub queues : m.queues ≤ max_queues
  pub lists : m.lists ≤ max_lists
  pub counter : Names max_counter m.counter
  -- question 7
  pub formed : T (well_formed m)
  -- one sample list for each list of the model
  pub tapes : length tape ≡ m.lists
  pub samples : (k : ℕ) → length (get_or tape k []) ≤ max_samples
  pub times : (k i : ℕ) → get_or (get_or tape k []) i 0 ≤ m.rules.max_time
