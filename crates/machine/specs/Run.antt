-- A turn: the ends before a turn, the start, and the run, "Each turn gets what the turn before it left".
use Rattle.std.specs.Prelude.{◌+◌, ◌*◌, ◌&&◌, ◌||◌, ◌∷◌, ◌++◌}
use Rattle.machine.specs.Basics.{ℕ, zero, suc, Bool, true, false, cond, not, List, [], map, Option, none, some, ltb, leb, eqb, length, replicate}
use Rattle.machine.specs.{Limits.max_serial, Limits.max_turns, Limits.record_room, Term.idle_server, Term.empty_queue, Facts.Facts, Facts.is_generate, Block.Block, Block.facts, Block.BlockModel, State.State, Setters.set_end, Moves.times_left, Moves.arrival, Turn.turn}

-- ---- "Before each turn, in this order: .." end 1 (dry), end 26, end 3, end 4

unfoldable pub is_none : {A : Type 0} → Option A → Bool
is_none none = true
is_none (some a) = false

unfoldable pub is_empty : {A : Type 0} → List A → Bool
is_empty [] = true
is_empty (x ∷ l) = false

unfoldable pub nobody_left : State → Bool
nobody_left s = is_none s.moving && is_empty s.rel && is_empty s.fel

-- the number of the end that comes before the next turn, 0 for none; a turn that ended the run has set its own
unfoldable pub end_before_lem : (budget room : ℕ) → State → ℕ
end_before_lem budget room s =
    cond (not (eqb s.end 0)) s.end
    (cond (nobody_left s) 1
    (cond (ltb max_serial s.serial || leb max_turns s.turns) 26
    (cond (leb budget s.turns) 3
    (cond (ltb room (s.written + record_room)) 4
    0))))

-- ---- "Start: clock 0; for each GENERATE in block order, if its sample list has a time, one transaction on the FEL at that time"

unfoldable pub start_of : Block → ℕ → State → State
start_of b n s =
    let f : Facts = facts b in
    cond (is_generate f) (arrival (times_left s f.generates) f.generates f.rank n s) s

-- the blocks from number n on
unfoldable pub start_at : ℕ → List Block → State → State
start_at n [] s = s
start_at n (b ∷ l) s = start_at (suc n) l (start_of b n s)

unfoldable pub idle : BlockModel → List (List ℕ) → State
idle m tape =
    record {
      view =
          record {
            clock = 0;
            entries = replicate (length m.blocks) 0;
            queues = replicate m.queues empty_queue;
            servers = replicate m.facilities (idle_server 1) ++ map idle_server m.capacities;
          };
      counter = m.counter;
      samples = tape;
      ql = replicate (m.facilities + length m.capacities) [];
      wel = replicate ((m.facilities + length m.capacities) * 6) [];
      wsl = [];
      rel = [];
      fel = [];
      gatherers = replicate (length m.blocks) [];
      interrupted = [];
      moving = none;
      serial = 0;
      made = 0;
      ended = 0;
      turns = 0;
      records = [];
      written = 0;
      end = 0;
    }

unfoldable pub start : BlockModel → List (List ℕ) → State
start m tape = start_at 1 m.blocks (idle m tape)

-- ---- The run

-- Turns until an end, from a state on. Each step asks for the end before the turn, so one step more than the most turns
-- is never used up.
unfoldable pub run_from : (steps : ℕ) → BlockModel → (budget room : ℕ) → State → State
run_from zero m budget room s = s
run_from (suc n) m budget room s =
    elim (eqb (end_before_lem budget room s) 0) [ true ↦ run_from n m budget room (turn m s) | false ↦ set_end (end_before_lem budget room s) s ]

-- the states of that run: one before each turn, and the last
unfoldable pub states_from : (steps : ℕ) → BlockModel → (budget room : ℕ) → State → List State
states_from zero m budget room s = s ∷ []
states_from (suc n) m budget room s =
    elim (eqb (end_before_lem budget room s) 0)
    [ true ↦ s ∷ states_from n m budget room (turn m s) | false ↦ set_end (end_before_lem budget room s) s ∷ [] ]

abbrev pub steps : ℕ
steps = suc max_turns

-- the last state of a run with a budget of turns and room for that many bytes of trace
unfoldable pub run : BlockModel → List (List ℕ) → (budget room : ℕ) → State
run m tape budget room = run_from steps m budget room (start m tape)

unfoldable pub states : BlockModel → List (List ℕ) → (budget room : ℕ) → List State
states m tape budget room = states_from steps m budget room (start m tape)
