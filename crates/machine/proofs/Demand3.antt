-- Demand 3: in every state of the run of every accepted model and tape, with every budget and every trace length, each living
-- transaction stands once, the counts are those that the records tell, under edition 1 nobody able to go waits where the clock is about
-- to move or the run ended dry and equal waits end in the order in which they began, each facility in use has a holder, whoever enters a
-- kind 17 block entered its whole group at that clock, and at an ASSEMBLE one of a family waits while not all have come. The states are
-- those
-- of the run that gives the outcome, and the run keeps to its bounds.
use Rattle.machine.specs.All.{ℕ, ◌≡◌, List, reverse, server_at, BlockModel, State, Rules, accept, validate, states, InOrder, Keeps, Demand3, Proved}
use Rattle.machine.proofs as our
use our.{Decoding.Proper.Proper, Decoding.ProperFrom.proper-from, Runs.Bounds.bounded, Order.InOrder.in_order, Runs.RunLaws.last}
use our.Basic.Each.{each_map, each-pair, each-under}
use our.Conservation.Conservation.{Conserved, conserved}
use our.NobodyAble.NobodyAble.{Waited, waited, able-none}
use our.Later.Holders.{Holding, holding, taken-from}
use our.Later.JoinedWaits.{Gathered, joined-waits}
use our.Later.Gathering.{Assembled, assembled}

-- by edition 1 alone
abbrev Ordered : BlockModel → List (List ℕ) → State → Type 0
Ordered m tape s = m.edition ≡ 1 → InOrder m tape (reverse s.records)

-- The claims of a state, proved apart.
abbrev Apart : BlockModel → List (List ℕ) → State → Type 0
Apart m tape s = (Conserved m tape s × Waited m s) × (Ordered m tape s × (Holding m tape s × (Gathered m tape s × Assembled m tape s)))

keeps : (m : BlockModel) (tape : List (List ℕ)) (s : State) → Apart m tape s → Keeps m tape s
unfolding server_at
keeps m tape s h =
    record {
      one_place = h.0.0.one_place;
      made = h.0.0.made;
      ended = h.0.0.ended;
      balance = h.0.0.balance;
      living = h.0.0.living;
      nobody-able = able-none m tape s h.0.1;
      order = h.1.0;
      held = λ f low high. (h.1.1.0.each f (low, high)).held;
      interrupted = λ f low high. (h.1.1.0.each f (low, high)).loser;
      taken-from = taken-from m tape s h.1.1.0;
      joined = h.1.1.1.0.joined;
      stamps = h.1.1.1.0.stamps;
      families = h.1.1.1.1.families;
      gathered = h.1.1.1.1.gathered;
    }

module _ {m : BlockModel} {tape : List (List ℕ)} (proper : Proper m tape) (budget room : ℕ) where
  abbrev all : List State
  all = states m tape budget room

  pub keeps-all : Demand3 m tape budget room
  keeps-all =
      each_map (keeps m tape) all
      (each-pair (λ s. Conserved m tape s × Waited m s)
      (λ s. Ordered m tape s × (Holding m tape s × (Gathered m tape s × Assembled m tape s))) all
      (each-pair (Conserved m tape) (Waited m) all (conserved m tape budget room proper) (waited proper budget room))
      (each-pair (Ordered m tape) (λ s. Holding m tape s × (Gathered m tape s × Assembled m tape s)) all
      (each-under (λ s. InOrder m tape (reverse s.records)) all (λ first. in_order proper first budget room))
      (each-pair (Holding m tape) (λ s. Gathered m tape s × Assembled m tape s) all (holding m tape budget room proper)
      (each-pair (Gathered m tape) (Assembled m tape) all (joined-waits proper budget room) (assembled proper budget room)))))

-- From bytes; the only hypothesis is that validation accepts.
pub demand3 : (rules : Rules) (model tape_bytes : List ℕ) (work report budget room : ℕ) {m : BlockModel} {tape : List (List ℕ)}
    → validate rules model tape_bytes work report ≡ accept m tape → Proved m tape budget room
demand3 rules model tape_bytes work report budget room {m} {tape} accepted =
    record {
      demand = keeps-all (proper-from rules model tape_bytes work report accepted) budget room;
      last-state = last m budget room tape;
      bounds = bounded m budget room tape;
    }
