-- A turn: the taking, with the statistics before a clock move, one block, the WS scheme.
use Rattle.machine.specs.Basics.{ℕ, zero, suc, max, Bool, false, cond, not, List, [], map, Option, none, some, eqb, length}
use Rattle.machine.specs.{Transaction.Transaction, Transaction.Event, Lists.those, Lists.others, State.State, Moves.to_rel, Moves.wake_wsl, Execute.question, Execute.effect}
use Rattle.machine.specs.Term.{Server, Queue, View, Sum, Condition, truth}
use Rattle.machine.specs.Block.{Block, facts, BlockModel, block_at}
use Rattle.machine.specs.Setters.{with_returning, set_clock, set_servers, set_queues, set_view, set_rel, set_fel, set_moving, set_turns, set_end}
use Rattle.std.specs.Prelude.{ℤ, ◌+◌, ◌*◌, ◌-◌, ◌∷◌}

-- ---- Statistics, summed before each clock move (Bytes, "Report: ..")

-- "unit ticks in use, .. ticks waited (QL length before each clock move times its ticks, summed), longest QL before a clock move"
unfoldable pub sample_servers : ℕ → List Server → List (List Transaction) → List Server
sample_servers ticks [] ql = []
sample_servers ticks (v ∷ l) [] = v ∷ l
sample_servers ticks (v ∷ l) (q ∷ ql) =
    record {
      capacity = v.capacity;
      in_use = v.in_use;
      holder = v.holder;
      preempted = v.preempted;
      unit_ticks = v.unit_ticks + v.in_use * ticks;
      wait_ticks = v.wait_ticks + length q * ticks;
      longest = max v.longest (length q);
    }
    ∷ sample_servers ticks l ql

-- "per queue: arrivals, content ticks, longest at a clock move"
unfoldable pub sample_queue : ℕ → Queue → Queue
sample_queue ticks q =
    record { content = q.content; content_ticks = q.content_ticks + q.content * ticks; longest = max q.longest q.content }

unfoldable pub sample : ℕ → State → State
sample ticks s =
    set_view (set_queues (map (sample_queue ticks) s.view.queues) (set_servers (sample_servers ticks s.view.servers s.ql) s.view)) s

-- ---- The taking: "A turn takes the moving transaction; else the first of REL; else it sets the clock to the first FEL time"

-- "moves all with that time to REL in FEL order with fresh serials, not returning"
unfoldable pub arrive_all : List Event → State → State
arrive_all [] s = s
arrive_all (e ∷ l) s = arrive_all l (to_rel (with_returning false e.who) s)

unfoldable pub due : ℕ → Event → Bool
due time e = eqb e.time time

-- a clock move to a time, "even by 0 ticks"
unfoldable pub move_clock : ℕ → State → State
move_clock time s =
    arrive_all (those (due time) s.fel)
    (set_fel (others (due time) s.fel) (set_view (set_clock time (sample (time - s.view.clock) s).view) s))

-- a clock move to the first time of the FEL, where it has one
unfoldable pub next_events : List Event → State → State
next_events [] s = s
next_events (e ∷ l) s = move_clock e.time s

-- the first of REL moves
unfoldable pub take_first : List Transaction → State → State
take_first [] s = s
take_first (t ∷ l) s = set_moving (some t) (set_rel l s)

unfoldable pub take_ready : List Transaction → State → State
take_ready [] s = let s' : State = next_events s.fel s in take_first s'.rel s'
take_ready (t ∷ l) s = take_first (t ∷ l) s

unfoldable pub taking : Option Transaction → State → State
taking none s = take_ready s.rel s
taking (some t) s = s

-- ---- "It executes one block."

-- A question stops the turn: "The transaction then stays moving, the turn counts and no record is written."
unfoldable pub answer : ℕ → BlockModel → Block → Transaction → State → State
answer zero m b t s = effect m b t (set_moving none s)
answer (suc n) m b t s = set_end (suc n) s

unfoldable pub execute : Option Transaction → BlockModel → State → State
execute none m s = s
execute (some t) m s = let b : Block = block_at m t.next in answer (question m b t s) m b t s

-- ---- "Unless that ends the run, the WS scheme follows: every WSL member whose comparison no longer holds goes to REL."

-- does a comparison let wait? one that is not there does not
unfoldable pub holds : List Sum → View → List ℤ → Option Condition → Bool
holds values w p none = false
holds values w p (some c) = truth values w p c

-- does the comparison of the WAITIF at which a WSL member stands hold, with its own parameters?
unfoldable pub waits_on : BlockModel → View → Transaction → Bool
waits_on m w t = holds m.values w t.parameters (facts (block_at m t.next)).waits_while

unfoldable pub ws_scheme : BlockModel → State → State
ws_scheme m s = cond (eqb s.end 0) (wake_wsl (λ t. not (waits_on m s.view t)) s) s

unfoldable pub turn : BlockModel → State → State
turn m s =
    let taken : State = set_turns (suc s.turns) (taking s.moving s) in
    ws_scheme m (execute taken.moving m taken)
