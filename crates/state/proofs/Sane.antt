-- What holds of the machine's states within a turn and lets 32-bit rows and 64-bit sums hold their numbers. These facts are
-- the machine's own (proofs/ of crate machine and proofs/Sanity.antt); no buffer is spoken of.
use Rattle.machine.specs.All.{ℕ, ◌+◌, ◌*◌, ◌-◌, ◌≤◌, ◌<◌, ◌≡◌, false, [], length, in_force, max_turns, max_counter, max_living, max_capacity, Event, Server, Queue, server_at, facts, BlockModel, block_at, State, gatherers_at, interrupted_at, Each, standing}
use Rattle.machine.proofs.{Decoding.Proper.Names, Runs.Shape.Shape, Runs.Placed.Placed, NobodyAble.Waiting.Waits, Runs.Everybody.Maybe, Runs.Everybody.Everybody, Runs.Clocks.Timely, Runs.Clocks.Samples}

pub record Sane (m : BlockModel) (s : State) : Type 0 where
  pub rules : m.rules ≡ in_force
  pub shape : Shape m s
  pub placed : Everybody (Placed m) s
  -- who waits where, and under edition 1 in which order
  pub waits : Waits m s
  pub timely : Timely in_force.max_clock s
  -- no event lies behind the clock
  pub ahead : Each (λ (e : Event). s.view.clock ≤ e.time) s.fel
  pub samples : Samples in_force.max_time s
  -- serials stay below 100,000,000 through a turn; every transaction has had one
  pub serials : s.serial ≤ 100000000
  pub made : s.made ≤ s.serial
  pub ended : s.ended ≤ s.made
  pub living : s.made - s.ended ≤ max_living
  pub turns : s.turns ≤ max_turns + 1
  pub counter : s.counter ≤ max_counter
  pub entries : Each (λ (n : ℕ). n ≤ s.turns) s.view.entries
  pub contents : Each (λ (q : Queue). q.content ≤ s.turns) s.view.queues
  -- fewer have come than the ASSEMBLE gathers
  pub come : (b : ℕ) → 1 ≤ b → 0 < (facts (block_at m b)).gathers → Each (λ g. g.come < (facts (block_at m b)).gathers) (gatherers_at s b)
  -- who is interrupted lost a facility of the model; nobody lost one that is seized
  pub interrupted : Each (λ i. Names m.facilities i.facility) s.interrupted
  pub seized : (f : ℕ) → Names m.facilities f → (server_at s.view f).preempted ≡ false → interrupted_at s f ≡ []
  -- who moves has a number
  pub mover : Maybe (λ t. Names s.made t.number) s.moving
  -- no number stands twice
  pub alone : (n : ℕ) → standing s n ≤ 1
  -- no QL is longer than the living are many
  pub waiting : Each (λ l. length l ≤ max_living) s.ql
  -- sums: at most so much for each tick that passed
  pub unit-ticks : Each (λ (v : Server). v.unit_ticks ≤ max_capacity * s.view.clock) s.view.servers
  pub wait-ticks : Each (λ (v : Server). v.wait_ticks ≤ max_living * s.view.clock) s.view.servers
  pub longest : Each (λ (v : Server). v.longest ≤ max_living) s.view.servers
  pub content-ticks : Each (λ (q : Queue). q.content_ticks ≤ 100000001 * s.view.clock) s.view.queues
  pub longest-content : Each (λ (q : Queue). q.longest ≤ 100000001) s.view.queues
