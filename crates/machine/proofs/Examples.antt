-- The examples of document 01, "Examples", and some of our own, each shown by computing the machine.
-- `printed` gives what `runmodel` prints, line by line, without the letters.
use Rattle.machine.specs.Basics.{ℕ, suc, ◌≡◌, refl, false, true, List, [], ◌∷◌, ◌++◌, map, none, some, length}
use Rattle.machine.specs.{Rules.Rules, Rules.document01, Rules.in_force, Transaction.Transaction, Transaction.newborn, Lists.nth, Term.Server, Term.Queue, Trace.Record, State.State, Moves.ql_of, Moves.set_use, Turn.turn, Run.idle, Run.run, Run.states, Report.server_numbers, Report.queue_numbers, Report.places, Validate.accept, Validate.reject, Validate.validate, Outcome.records_of, Bundle.everything}
use Rattle.machine.specs.Block.{advance, terminate, seize, split, BlockModel}
use Rattle.machine.specs.Setters.{with_serial, with_returning, set_rel, set_made, set_moving, set_clock, set_view}
use Rattle.std.specs.Prelude.{ℤ, pos, negsuc}

-- ---- How an example is shown

-- lines of numbers, or a signed number
pub data Shown : Type 0 where
  lines : List (List ℕ) → Shown
  integer : ℤ → Shown

-- what the machine gives, and what the paper says
pub record Example : Type 0 where
  pub found : Shown
  pub wanted : Shown

infix 10 ◌gives◌
abbrev ◌gives◌ : Shown → Shown → Example
found gives wanted = record { found = found; wanted = wanted }

module _ (m : BlockModel) (s : State) where
  server_lines : ℕ → List Server → List (List ℕ)
  server_lines v [] = []
  server_lines v (x ∷ l) = (v ∷ server_numbers m s.records v (x ∷ [])) ∷ server_lines (suc v) l

  queue_lines : ℕ → List Queue → List (List ℕ)
  queue_lines q [] = []
  queue_lines q (x ∷ l) = (q ∷ queue_numbers m s.records q (x ∷ [])) ∷ queue_lines (suc q) l

  record_line : Record → List ℕ
  record_line r = r.clock ∷ r.transaction ∷ r.block ∷ r.outcome ∷ []

  -- records, then end, clock, made, ended, living, then the servers and the queues
  printed_state : List (List ℕ)
  printed_state =
      map record_line (records_of s)
      ++ (s.end ∷ s.view.clock ∷ s.made ∷ s.ended ∷ length (places s) ∷ [])
      ∷ (server_lines 1 s.view.servers ++ queue_lines 1 s.view.queues)

-- Each is shown under document 01's rules and under those in force: of what they say, later papers changed nothing.
printed : Rules → List ℕ → List ℕ → (budget : ℕ) → Shown
printed rules model tape budget =
    elim (validate rules model tape 16384 10240)
    [ accept m t ↦ lines (printed_state m (run m t budget 65536)) | reject n ↦ lines ((n ∷ []) ∷ []) ]

-- the length of the first server's QL and of REL in each state of a run
lengths : Rules → List ℕ → List ℕ → Shown
lengths rules model tape =
    elim (validate rules model tape 16384 10240)
    [ accept m t ↦ lines (map (λ s. length (ql_of s 1) ∷ length s.rel ∷ []) (states m t 1000000 65536)) | reject n ↦ lines [] ]

-- the first parameter of who moves, after so many turns
parameter : Rules → List ℕ → List ℕ → (turns : ℕ) → Shown
parameter rules model tape turns =
    elim (validate rules model tape 16384 10240)
    [ accept m t ↦ elim (run m t turns 65536).moving [ some x ↦ integer (nth x.parameters 1 (pos 0)) | none ↦ lines [] ] | reject n ↦ lines ((n ∷ []) ∷ []) ]

-- ---- The starred examples of document 01

-- the first example
unfoldable pub first_model : List ℕ
first_model = 0x01 ∷ 0x01 ∷ 0x00 ∷ 0x00 ∷ 0x00 ∷ 0x02 ∷ 0x02 ∷ 0x05 ∷ 0x01 ∷ 0x01 ∷ 0x00 ∷ 0x04 ∷ 0x01 ∷ 0x02 ∷ 0x02 ∷ 0x05 ∷ 0x01 ∷ 0x03 ∷ 0x01 ∷ []

unfoldable pub first_tape : List ℕ
first_tape = 0x02 ∷ 0x03 ∷ 0x02 ∷ 0x02 ∷ 0x05 ∷ 0x04 ∷ []

-- Capacity 2, two single holders, a waiter for 2
unfoldable pub storage_model : List ℕ
storage_model = 0x01 ∷ 0x00 ∷ 0x01 ∷ 0x02 ∷ 0x00 ∷ 0x00 ∷ 0x03 ∷ 0x01 ∷ 0x08 ∷ 0x01 ∷ 0x01 ∷ 0x00 ∷ 0x06 ∷ 0x01 ∷ 0x01 ∷ 0x02 ∷ 0x02 ∷ 0x07 ∷ 0x01 ∷ 0x01 ∷ 0x03 ∷ 0x00 ∷ 0x01 ∷ 0x03 ∷ 0x00 ∷ 0x06 ∷ 0x01 ∷ 0x02 ∷ 0x03 ∷ 0x01 ∷ []

unfoldable pub storage_tape : List ℕ
storage_tape = 0x02 ∷ 0x01 ∷ 0x00 ∷ 0x02 ∷ 0x05 ∷ 0x08 ∷ 0x01 ∷ 0x02 ∷ []

-- value 1 is 2,147,483,647 + 1, and LET makes it parameter 1
wrap_model : List ℕ
wrap_model = 0x01 ∷ 0x00 ∷ 0x00 ∷ 0x00 ∷ 0x01 ∷ 0x02 ∷ 0x00 ∷ 0x00 ∷ 0x87 ∷ 0xFF ∷ 0xFF ∷ 0xFF ∷ 0x7F ∷ 0x00 ∷ 0x00 ∷ 0x01 ∷ 0x01 ∷ 0x01 ∷ 0x03 ∷ 0x01 ∷ 0x01 ∷ 0x00 ∷ 0x0C ∷ 0x01 ∷ 0x09 ∷ 0x01 ∷ 0x03 ∷ 0x01 ∷ []

wrap_tape : List ℕ
wrap_tape = 0x01 ∷ 0x00 ∷ []

-- Equal move time: priority 1 precedes an earlier priority 0
equal_time_model : List ℕ
equal_time_model = 0x01 ∷ 0x00 ∷ 0x00 ∷ 0x00 ∷ 0x00 ∷ 0x02 ∷ 0x09 ∷ 0x04 ∷ 0x01 ∷ 0x01 ∷ 0x00 ∷ 0x03 ∷ 0x00 ∷ 0x01 ∷ 0x02 ∷ 0x01 ∷ 0x03 ∷ 0x00 ∷ []

equal_time_tape : List ℕ
equal_time_tape = 0x01 ∷ 0x03 ∷ 0x01 ∷ 0x03 ∷ []

-- After RELEASE the same transaction may SEIZE before the woken waiter
seize_again_model : List ℕ
seize_again_model = 0x01 ∷ 0x01 ∷ 0x00 ∷ 0x00 ∷ 0x00 ∷ 0x02 ∷ 0x09 ∷ 0x07 ∷ 0x01 ∷ 0x01 ∷ 0x00 ∷ 0x04 ∷ 0x01 ∷ 0x02 ∷ 0x02 ∷ 0x05 ∷ 0x01 ∷ 0x04 ∷ 0x01 ∷ 0x05 ∷ 0x01 ∷ 0x03 ∷ 0x01 ∷ []

seize_again_tape : List ℕ
seize_again_tape = 0x02 ∷ 0x01 ∷ 0x01 ∷ 0x02 ∷ 0x05 ∷ 0x05 ∷ []

-- no GENERATE
bare_model : List ℕ
bare_model = 0x01 ∷ 0x00 ∷ 0x00 ∷ 0x00 ∷ 0x00 ∷ 0x00 ∷ 0x01 ∷ 0x01 ∷ 0x03 ∷ 0x01 ∷ []

-- a state with a facility in use, and on REL two returners of equal priority that stand at its SEIZE
seize_only : Rules → BlockModel
seize_only rules =
    record { rules = rules; edition = 1; facilities = 1; capacities = []; queues = 0; values = []; lists = 0; counter = 1; blocks = seize 1 ∷ terminate 1 ∷ [] }

returner : (number serial : ℕ) → Transaction
returner number serial = with_returning true (with_serial serial (newborn number 0 1))

both_woken : Rules → State
both_woken rules = set_rel (returner 1 5 ∷ returner 2 9 ∷ []) (set_use 1 1 3 false (idle (seize_only rules) []))

serials : List Transaction → List ℕ
serials l = map (λ t. t.serial) l

pub starred_list : Rules → List Example
starred_list rules =
    -- "Model 01 01 00 ..": records, end and facility
    (printed rules first_model first_tape 1000000 gives
    lines ((3 ∷ 1 ∷ 1 ∷ 0 ∷ []) ∷ (3 ∷ 1 ∷ 2 ∷ 0 ∷ []) ∷ (3 ∷ 1 ∷ 3 ∷ 0 ∷ []) ∷ (5 ∷ 2 ∷ 1 ∷ 0 ∷ []) ∷ (5 ∷ 2 ∷ 2 ∷ 1 ∷ []) ∷ (8 ∷ 1 ∷ 4 ∷ 0 ∷ []) ∷ (8 ∷ 1 ∷ 5 ∷ 0 ∷ []) ∷ (8 ∷ 2 ∷ 2 ∷ 0 ∷ []) ∷ (8 ∷ 2 ∷ 3 ∷ 0 ∷ []) ∷ (12 ∷ 2 ∷ 4 ∷ 0 ∷ []) ∷ (12 ∷ 2 ∷ 5 ∷ 0 ∷ []) ∷ (2 ∷ 12 ∷ 2 ∷ 2 ∷ 0 ∷ []) ∷ (1 ∷ 2 ∷ 9 ∷ 1 ∷ 3 ∷ 1 ∷ []) ∷ [])) ∷
    -- "Same, budget 0: end 3, no records."
    (printed rules first_model first_tape 0 gives
    lines ((3 ∷ 0 ∷ 1 ∷ 0 ∷ 1 ∷ []) ∷ (1 ∷ 0 ∷ 0 ∷ 0 ∷ 0 ∷ 0 ∷ []) ∷ [])) ∷
    -- "No GENERATE, budget 0: end 1."
    (printed rules bare_model [] 0 gives
    lines ((1 ∷ 0 ∷ 0 ∷ 0 ∷ 0 ∷ []) ∷ [])) ∷
    -- "Serials 5 and 9, equal priority, both woken, both find f in use: the QL is 5, 9."
    (lines (serials (ql_of (turn (seize_only rules) (turn (seize_only rules) (both_woken rules))) 1) ∷ []) gives
    lines ((5 ∷ 9 ∷ []) ∷ [])) ∷
    -- "Capacity 2, two single holders, a waiter for 2: the first LEAVE moves none, the second moves it."
    (lengths rules storage_model storage_tape gives
    lines ((0 ∷ 0 ∷ []) ∷ (0 ∷ 0 ∷ []) ∷ (0 ∷ 0 ∷ []) ∷ (0 ∷ 0 ∷ []) ∷ (0 ∷ 0 ∷ []) ∷ (0 ∷ 0 ∷ []) ∷ (0 ∷ 0 ∷ []) ∷ (0 ∷ 0 ∷ []) ∷ (1 ∷ 0 ∷ []) ∷ (1 ∷ 0 ∷ []) ∷ (1 ∷ 0 ∷ []) ∷ (0 ∷ 1 ∷ []) ∷ (0 ∷ 1 ∷ []) ∷ (0 ∷ 0 ∷ []) ∷ (0 ∷ 0 ∷ []) ∷ [])) ∷
    -- and its trace
    (printed rules storage_model storage_tape 1000000 gives
    lines ((1 ∷ 1 ∷ 1 ∷ 0 ∷ []) ∷ (1 ∷ 1 ∷ 2 ∷ 0 ∷ []) ∷ (1 ∷ 1 ∷ 3 ∷ 0 ∷ []) ∷ (1 ∷ 3 ∷ 1 ∷ 0 ∷ []) ∷ (1 ∷ 3 ∷ 2 ∷ 0 ∷ []) ∷ (1 ∷ 3 ∷ 3 ∷ 0 ∷ []) ∷ (2 ∷ 2 ∷ 6 ∷ 0 ∷ []) ∷ (2 ∷ 2 ∷ 7 ∷ 1 ∷ []) ∷ (6 ∷ 1 ∷ 4 ∷ 0 ∷ []) ∷ (6 ∷ 1 ∷ 5 ∷ 0 ∷ []) ∷ (9 ∷ 3 ∷ 4 ∷ 0 ∷ []) ∷ (9 ∷ 3 ∷ 5 ∷ 0 ∷ []) ∷ (9 ∷ 2 ∷ 7 ∷ 0 ∷ []) ∷ (9 ∷ 2 ∷ 8 ∷ 0 ∷ []) ∷ (2 ∷ 9 ∷ 3 ∷ 3 ∷ 0 ∷ []) ∷ (1 ∷ 3 ∷ 13 ∷ 1 ∷ 7 ∷ 1 ∷ []) ∷ [])) ∷
    -- "2,147,483,647 + 1 is -2,147,483,648.": the parameter after GENERATE and LET
    (parameter rules wrap_model wrap_tape 2 gives
    integer (negsuc 2147483647)) ∷
    -- "80 01 is refused, 3.": the edition of the first example, padded
    (printed rules (0x80 ∷ first_model) first_tape 1000000 gives
    lines ((3 ∷ []) ∷ [])) ∷
    -- "Equal move time: priority 1 precedes an earlier priority 0."
    (printed rules equal_time_model equal_time_tape 1000000 gives
    lines ((3 ∷ 2 ∷ 3 ∷ 0 ∷ []) ∷ (3 ∷ 2 ∷ 4 ∷ 0 ∷ []) ∷ (3 ∷ 1 ∷ 1 ∷ 0 ∷ []) ∷ (3 ∷ 1 ∷ 2 ∷ 0 ∷ []) ∷ (1 ∷ 3 ∷ 2 ∷ 2 ∷ 0 ∷ []) ∷ [])) ∷
    -- "After RELEASE the same transaction may SEIZE before the woken waiter."
    (printed rules seize_again_model seize_again_tape 1000000 gives
    lines ((1 ∷ 1 ∷ 1 ∷ 0 ∷ []) ∷ (1 ∷ 1 ∷ 2 ∷ 0 ∷ []) ∷ (1 ∷ 1 ∷ 3 ∷ 0 ∷ []) ∷ (2 ∷ 2 ∷ 1 ∷ 0 ∷ []) ∷ (2 ∷ 2 ∷ 2 ∷ 1 ∷ []) ∷ (6 ∷ 1 ∷ 4 ∷ 0 ∷ []) ∷ (6 ∷ 1 ∷ 5 ∷ 0 ∷ []) ∷ (6 ∷ 1 ∷ 6 ∷ 0 ∷ []) ∷ (6 ∷ 1 ∷ 7 ∷ 0 ∷ []) ∷ (6 ∷ 2 ∷ 2 ∷ 0 ∷ []) ∷ (6 ∷ 2 ∷ 3 ∷ 0 ∷ []) ∷ (11 ∷ 2 ∷ 4 ∷ 0 ∷ []) ∷ (11 ∷ 2 ∷ 5 ∷ 0 ∷ []) ∷ (11 ∷ 2 ∷ 6 ∷ 0 ∷ []) ∷ (11 ∷ 2 ∷ 7 ∷ 0 ∷ []) ∷ (1 ∷ 11 ∷ 2 ∷ 2 ∷ 0 ∷ []) ∷ (1 ∷ 4 ∷ 10 ∷ 1 ∷ 4 ∷ 1 ∷ []) ∷ [])) ∷
    []

-- what is found of a list of examples under document 01's rules and under those in force, and what is wanted of both
abbrev founds : (Rules → List Example) → List (List Shown)
founds l = map (λ e. e.found) (l document01) ∷ map (λ e. e.found) (l in_force) ∷ []

abbrev wanteds : (Rules → List Example) → List (List Shown)
wanteds l = map (λ e. e.wanted) (l document01) ∷ map (λ e. e.wanted) (l in_force) ∷ []

pub starred : founds starred_list ≡ wanteds starred_list
unfolding everything server_lines queue_lines record_line printed_state printed lengths parameter first_model first_tape storage_model storage_tape wrap_model wrap_tape equal_time_model equal_time_tape seize_again_model seize_again_tape bare_model seize_only returner both_woken serials starred_list
starred = refl

-- ---- Examples of our own, for what the starred ones miss

-- two waiters that both fit one LEAVE
both_fit_model : List ℕ
both_fit_model = 0x01 ∷ 0x00 ∷ 0x01 ∷ 0x02 ∷ 0x00 ∷ 0x00 ∷ 0x03 ∷ 0x09 ∷ 0x08 ∷ 0x01 ∷ 0x01 ∷ 0x00 ∷ 0x06 ∷ 0x01 ∷ 0x02 ∷ 0x02 ∷ 0x02 ∷ 0x07 ∷ 0x01 ∷ 0x02 ∷ 0x03 ∷ 0x01 ∷ 0x01 ∷ 0x03 ∷ 0x00 ∷ 0x06 ∷ 0x01 ∷ 0x01 ∷ 0x03 ∷ 0x01 ∷ []

both_fit_tape : List ℕ
both_fit_tape = 0x01 ∷ 0x01 ∷ 0x01 ∷ 0x06 ∷ 0x02 ∷ 0x02 ∷ 0x01 ∷ []

-- a WSL waiter freed by another's block: content of the queue above 0
unfoldable pub freed_by_other_model : List ℕ
freed_by_other_model = 0x01 ∷ 0x00 ∷ 0x00 ∷ 0x01 ∷ 0x00 ∷ 0x02 ∷ 0x09 ∷ 0x07 ∷ 0x01 ∷ 0x01 ∷ 0x00 ∷ 0x09 ∷ 0x05 ∷ 0x01 ∷ 0x01 ∷ 0x00 ∷ 0x00 ∷ 0x10 ∷ 0x01 ∷ 0x03 ∷ 0x01 ∷ 0x01 ∷ 0x02 ∷ 0x00 ∷ 0x0F ∷ 0x01 ∷ 0x03 ∷ 0x01 ∷ []

unfoldable pub freed_by_other_tape : List ℕ
freed_by_other_tape = 0x01 ∷ 0x01 ∷ 0x01 ∷ 0x04 ∷ []

-- a WEL chain: each passer wakes the next
unfoldable pub chain_model : List ℕ
chain_model = 0x01 ∷ 0x01 ∷ 0x00 ∷ 0x00 ∷ 0x00 ∷ 0x03 ∷ 0x09 ∷ 0x08 ∷ 0x01 ∷ 0x01 ∷ 0x00 ∷ 0x08 ∷ 0x01 ∷ 0x01 ∷ 0x03 ∷ 0x01 ∷ 0x01 ∷ 0x02 ∷ 0x00 ∷ 0x04 ∷ 0x01 ∷ 0x02 ∷ 0x03 ∷ 0x05 ∷ 0x01 ∷ 0x03 ∷ 0x01 ∷ []

unfoldable pub chain_tape : List ℕ
chain_tape = 0x03 ∷ 0x02 ∷ 0x00 ∷ 0x00 ∷ 0x01 ∷ 0x01 ∷ 0x01 ∷ 0x05 ∷ []

-- two returners put back in their order
unfoldable pub returners_model : List ℕ
returners_model = 0x01 ∷ 0x01 ∷ 0x00 ∷ 0x00 ∷ 0x00 ∷ 0x03 ∷ 0x09 ∷ 0x0E ∷ 0x01 ∷ 0x01 ∷ 0x00 ∷ 0x04 ∷ 0x01 ∷ 0x02 ∷ 0x02 ∷ 0x05 ∷ 0x01 ∷ 0x04 ∷ 0x01 ∷ 0x05 ∷ 0x01 ∷ 0x04 ∷ 0x01 ∷ 0x02 ∷ 0x02 ∷ 0x05 ∷ 0x01 ∷ 0x03 ∷ 0x01 ∷ 0x01 ∷ 0x03 ∷ 0x00 ∷ 0x04 ∷ 0x01 ∷ 0x05 ∷ 0x01 ∷ 0x03 ∷ 0x01 ∷ []

unfoldable pub returners_tape : List ℕ
returners_tape = 0x01 ∷ 0x01 ∷ 0x02 ∷ 0x05 ∷ 0x05 ∷ 0x02 ∷ 0x02 ∷ 0x00 ∷ []

-- SPLIT
copies_model : List ℕ
copies_model = 0x01 ∷ 0x00 ∷ 0x00 ∷ 0x00 ∷ 0x00 ∷ 0x01 ∷ 0x09 ∷ 0x08 ∷ 0x01 ∷ 0x01 ∷ 0x03 ∷ 0x0C ∷ 0x01 ∷ 0x00 ∷ 0x07 ∷ 0x0E ∷ 0x03 ∷ 0x05 ∷ 0x03 ∷ 0x01 ∷ 0x0C ∷ 0x02 ∷ 0x02 ∷ 0x01 ∷ 0x0A ∷ 0x02 ∷ 0x02 ∷ 0x01 ∷ 0x00 ∷ 0x07 ∷ 0x08 ∷ 0x03 ∷ 0x00 ∷ 0x03 ∷ 0x01 ∷ []

copies_tape : List ℕ
copies_tape = 0x01 ∷ 0x02 ∷ []

-- a spent GENERATE
spent_model : List ℕ
spent_model = 0x01 ∷ 0x00 ∷ 0x00 ∷ 0x00 ∷ 0x00 ∷ 0x01 ∷ 0x09 ∷ 0x04 ∷ 0x01 ∷ 0x01 ∷ 0x00 ∷ 0x03 ∷ 0x01 ∷ 0x01 ∷ 0x01 ∷ 0x00 ∷ 0x03 ∷ 0x01 ∷ []

spent_tape : List ℕ
spent_tape = 0x01 ∷ 0x03 ∷ []

-- 0-tick clock moves
zero_ticks_model : List ℕ
zero_ticks_model = 0x01 ∷ 0x00 ∷ 0x00 ∷ 0x01 ∷ 0x00 ∷ 0x02 ∷ 0x09 ∷ 0x05 ∷ 0x01 ∷ 0x01 ∷ 0x00 ∷ 0x0F ∷ 0x01 ∷ 0x02 ∷ 0x02 ∷ 0x10 ∷ 0x01 ∷ 0x03 ∷ 0x01 ∷ []

zero_ticks_tape : List ℕ
zero_ticks_tape = 0x02 ∷ 0x00 ∷ 0x00 ∷ 0x02 ∷ 0x00 ∷ 0x00 ∷ []

-- ADVANCE with no time left
no_time_model : List ℕ
no_time_model = 0x01 ∷ 0x00 ∷ 0x00 ∷ 0x00 ∷ 0x00 ∷ 0x02 ∷ 0x09 ∷ 0x03 ∷ 0x01 ∷ 0x01 ∷ 0x00 ∷ 0x02 ∷ 0x02 ∷ 0x03 ∷ 0x01 ∷ []

no_time_tape : List ℕ
no_time_tape = 0x01 ∷ 0x03 ∷ 0x00 ∷ []

-- RELEASE of an idle facility
idle_release_model : List ℕ
idle_release_model = 0x01 ∷ 0x01 ∷ 0x00 ∷ 0x00 ∷ 0x00 ∷ 0x01 ∷ 0x09 ∷ 0x03 ∷ 0x01 ∷ 0x01 ∷ 0x00 ∷ 0x05 ∷ 0x01 ∷ 0x03 ∷ 0x01 ∷ []

idle_release_tape : List ℕ
idle_release_tape = 0x01 ∷ 0x03 ∷ []

-- DEPART from an empty queue
empty_depart_model : List ℕ
empty_depart_model = 0x01 ∷ 0x00 ∷ 0x00 ∷ 0x01 ∷ 0x00 ∷ 0x01 ∷ 0x09 ∷ 0x03 ∷ 0x01 ∷ 0x01 ∷ 0x00 ∷ 0x10 ∷ 0x01 ∷ 0x03 ∷ 0x01 ∷ []

empty_depart_tape : List ℕ
empty_depart_tape = 0x01 ∷ 0x03 ∷ []

-- a term is read before the block's own entry counts
entry_model : List ℕ
entry_model = 0x01 ∷ 0x00 ∷ 0x00 ∷ 0x00 ∷ 0x00 ∷ 0x01 ∷ 0x09 ∷ 0x05 ∷ 0x01 ∷ 0x01 ∷ 0x00 ∷ 0x0C ∷ 0x01 ∷ 0x04 ∷ 0x02 ∷ 0x0A ∷ 0x02 ∷ 0x01 ∷ 0x01 ∷ 0x00 ∷ 0x00 ∷ 0x05 ∷ 0x03 ∷ 0x00 ∷ 0x03 ∷ 0x01 ∷ []

entry_tape : List ℕ
entry_tape = 0x01 ∷ 0x03 ∷ []

-- 1,024 living, and one of them before a SPLIT
crowded : Rules → BlockModel
crowded rules =
    record { rules = rules; edition = 1; facilities = 0; capacities = []; queues = 0; values = []; lists = 0; counter = 1; blocks = split 1 2 ∷ terminate 1 ∷ [] }

pub further_list : Rules → List Example
further_list rules =
    -- two waiters that both fit one LEAVE
    (printed rules both_fit_model both_fit_tape 1000000 gives
    lines ((1 ∷ 1 ∷ 1 ∷ 0 ∷ []) ∷ (1 ∷ 1 ∷ 2 ∷ 0 ∷ []) ∷ (1 ∷ 1 ∷ 3 ∷ 0 ∷ []) ∷ (2 ∷ 2 ∷ 6 ∷ 0 ∷ []) ∷ (2 ∷ 2 ∷ 7 ∷ 1 ∷ []) ∷ (3 ∷ 3 ∷ 6 ∷ 0 ∷ []) ∷ (3 ∷ 3 ∷ 7 ∷ 1 ∷ []) ∷ (7 ∷ 1 ∷ 4 ∷ 0 ∷ []) ∷ (7 ∷ 1 ∷ 5 ∷ 0 ∷ []) ∷ (7 ∷ 2 ∷ 7 ∷ 0 ∷ []) ∷ (7 ∷ 2 ∷ 8 ∷ 0 ∷ []) ∷ (7 ∷ 3 ∷ 7 ∷ 0 ∷ []) ∷ (7 ∷ 3 ∷ 8 ∷ 0 ∷ []) ∷ (1 ∷ 7 ∷ 3 ∷ 3 ∷ 0 ∷ []) ∷ (1 ∷ 3 ∷ 12 ∷ 2 ∷ 9 ∷ 2 ∷ []) ∷ [])) ∷
    -- a WSL waiter freed by another's block: content of the queue above 0
    (printed rules freed_by_other_model freed_by_other_tape 1000000 gives
    lines ((1 ∷ 1 ∷ 1 ∷ 0 ∷ []) ∷ (1 ∷ 1 ∷ 2 ∷ 1 ∷ []) ∷ (4 ∷ 2 ∷ 5 ∷ 0 ∷ []) ∷ (4 ∷ 2 ∷ 6 ∷ 0 ∷ []) ∷ (4 ∷ 2 ∷ 7 ∷ 0 ∷ []) ∷ (4 ∷ 1 ∷ 2 ∷ 0 ∷ []) ∷ (4 ∷ 1 ∷ 3 ∷ 0 ∷ []) ∷ (4 ∷ 1 ∷ 4 ∷ 0 ∷ []) ∷ (1 ∷ 4 ∷ 2 ∷ 2 ∷ 0 ∷ []) ∷ (1 ∷ 1 ∷ 0 ∷ 0 ∷ []) ∷ [])) ∷
    -- a WEL chain: each passer wakes the next
    (printed rules chain_model chain_tape 1000000 gives
    lines ((1 ∷ 2 ∷ 4 ∷ 0 ∷ []) ∷ (1 ∷ 2 ∷ 5 ∷ 0 ∷ []) ∷ (1 ∷ 2 ∷ 6 ∷ 0 ∷ []) ∷ (2 ∷ 1 ∷ 1 ∷ 0 ∷ []) ∷ (2 ∷ 1 ∷ 2 ∷ 1 ∷ []) ∷ (2 ∷ 3 ∷ 1 ∷ 0 ∷ []) ∷ (2 ∷ 3 ∷ 2 ∷ 1 ∷ []) ∷ (2 ∷ 4 ∷ 1 ∷ 0 ∷ []) ∷ (2 ∷ 4 ∷ 2 ∷ 1 ∷ []) ∷ (6 ∷ 2 ∷ 7 ∷ 0 ∷ []) ∷ (6 ∷ 2 ∷ 8 ∷ 0 ∷ []) ∷ (6 ∷ 1 ∷ 2 ∷ 0 ∷ []) ∷ (6 ∷ 1 ∷ 3 ∷ 0 ∷ []) ∷ (6 ∷ 3 ∷ 2 ∷ 0 ∷ []) ∷ (6 ∷ 3 ∷ 3 ∷ 0 ∷ []) ∷ (6 ∷ 4 ∷ 2 ∷ 0 ∷ []) ∷ (6 ∷ 4 ∷ 3 ∷ 0 ∷ []) ∷ (1 ∷ 6 ∷ 4 ∷ 4 ∷ 0 ∷ []) ∷ (1 ∷ 1 ∷ 5 ∷ 0 ∷ 0 ∷ 0 ∷ []) ∷ [])) ∷
    -- two returners put back in their order
    (printed rules returners_model returners_tape 1000000 gives
    lines ((1 ∷ 1 ∷ 1 ∷ 0 ∷ []) ∷ (1 ∷ 1 ∷ 2 ∷ 0 ∷ []) ∷ (1 ∷ 1 ∷ 3 ∷ 0 ∷ []) ∷ (2 ∷ 2 ∷ 11 ∷ 0 ∷ []) ∷ (2 ∷ 2 ∷ 12 ∷ 1 ∷ []) ∷ (2 ∷ 3 ∷ 11 ∷ 0 ∷ []) ∷ (2 ∷ 3 ∷ 12 ∷ 1 ∷ []) ∷ (6 ∷ 1 ∷ 4 ∷ 0 ∷ []) ∷ (6 ∷ 1 ∷ 5 ∷ 0 ∷ []) ∷ (6 ∷ 1 ∷ 6 ∷ 0 ∷ []) ∷ (6 ∷ 1 ∷ 7 ∷ 0 ∷ []) ∷ (6 ∷ 1 ∷ 8 ∷ 0 ∷ []) ∷ (11 ∷ 1 ∷ 9 ∷ 0 ∷ []) ∷ (11 ∷ 1 ∷ 10 ∷ 0 ∷ []) ∷ (11 ∷ 2 ∷ 12 ∷ 0 ∷ []) ∷ (11 ∷ 2 ∷ 13 ∷ 0 ∷ []) ∷ (11 ∷ 2 ∷ 14 ∷ 0 ∷ []) ∷ (11 ∷ 3 ∷ 12 ∷ 0 ∷ []) ∷ (11 ∷ 3 ∷ 13 ∷ 0 ∷ []) ∷ (11 ∷ 3 ∷ 14 ∷ 0 ∷ []) ∷ (1 ∷ 11 ∷ 3 ∷ 3 ∷ 0 ∷ []) ∷ (1 ∷ 5 ∷ 10 ∷ 2 ∷ 18 ∷ 2 ∷ []) ∷ [])) ∷
    -- SPLIT
    (printed rules copies_model copies_tape 1000000 gives
    lines ((2 ∷ 1 ∷ 1 ∷ 0 ∷ []) ∷ (2 ∷ 1 ∷ 2 ∷ 0 ∷ []) ∷ (2 ∷ 1 ∷ 3 ∷ 0 ∷ []) ∷ (2 ∷ 1 ∷ 4 ∷ 0 ∷ []) ∷ (2 ∷ 2 ∷ 5 ∷ 0 ∷ []) ∷ (2 ∷ 2 ∷ 6 ∷ 0 ∷ []) ∷ (2 ∷ 2 ∷ 8 ∷ 0 ∷ []) ∷ (2 ∷ 3 ∷ 5 ∷ 0 ∷ []) ∷ (2 ∷ 3 ∷ 6 ∷ 0 ∷ []) ∷ (2 ∷ 3 ∷ 8 ∷ 0 ∷ []) ∷ (2 ∷ 4 ∷ 5 ∷ 0 ∷ []) ∷ (2 ∷ 4 ∷ 6 ∷ 0 ∷ []) ∷ (2 ∷ 4 ∷ 8 ∷ 0 ∷ []) ∷ (1 ∷ 2 ∷ 4 ∷ 4 ∷ 0 ∷ []) ∷ [])) ∷
    -- a spent GENERATE
    (printed rules spent_model spent_tape 1000000 gives
    lines ((3 ∷ 1 ∷ 1 ∷ 0 ∷ []) ∷ (3 ∷ 1 ∷ 2 ∷ 0 ∷ []) ∷ (1 ∷ 3 ∷ 1 ∷ 1 ∷ 0 ∷ []) ∷ [])) ∷
    -- 0-tick clock moves
    (printed rules zero_ticks_model zero_ticks_tape 1000000 gives
    lines ((0 ∷ 1 ∷ 1 ∷ 0 ∷ []) ∷ (0 ∷ 1 ∷ 2 ∷ 0 ∷ []) ∷ (0 ∷ 1 ∷ 3 ∷ 0 ∷ []) ∷ (0 ∷ 2 ∷ 1 ∷ 0 ∷ []) ∷ (0 ∷ 2 ∷ 2 ∷ 0 ∷ []) ∷ (0 ∷ 2 ∷ 3 ∷ 0 ∷ []) ∷ (0 ∷ 1 ∷ 4 ∷ 0 ∷ []) ∷ (0 ∷ 1 ∷ 5 ∷ 0 ∷ []) ∷ (0 ∷ 2 ∷ 4 ∷ 0 ∷ []) ∷ (0 ∷ 2 ∷ 5 ∷ 0 ∷ []) ∷ (1 ∷ 0 ∷ 2 ∷ 2 ∷ 0 ∷ []) ∷ (1 ∷ 2 ∷ 0 ∷ 1 ∷ []) ∷ [])) ∷
    -- ADVANCE with no time left
    (printed rules no_time_model no_time_tape 1000000 gives
    lines ((3 ∷ 1 ∷ 1 ∷ 0 ∷ []) ∷ (23 ∷ 3 ∷ 1 ∷ 0 ∷ 1 ∷ []) ∷ [])) ∷
    -- RELEASE of an idle facility
    (printed rules idle_release_model idle_release_tape 1000000 gives
    lines ((3 ∷ 1 ∷ 1 ∷ 0 ∷ []) ∷ (24 ∷ 3 ∷ 1 ∷ 0 ∷ 1 ∷ []) ∷ (1 ∷ 0 ∷ 0 ∷ 0 ∷ 0 ∷ 0 ∷ []) ∷ [])) ∷
    -- DEPART from an empty queue
    (printed rules empty_depart_model empty_depart_tape 1000000 gives
    lines ((3 ∷ 1 ∷ 1 ∷ 0 ∷ []) ∷ (25 ∷ 3 ∷ 1 ∷ 0 ∷ 1 ∷ []) ∷ (1 ∷ 0 ∷ 0 ∷ 0 ∷ []) ∷ [])) ∷
    -- a term is read before the block's own entry counts
    (printed rules entry_model entry_tape 1000000 gives
    lines ((3 ∷ 1 ∷ 1 ∷ 0 ∷ []) ∷ (3 ∷ 1 ∷ 2 ∷ 0 ∷ []) ∷ (3 ∷ 1 ∷ 3 ∷ 0 ∷ []) ∷ (3 ∷ 1 ∷ 5 ∷ 0 ∷ []) ∷ (1 ∷ 3 ∷ 1 ∷ 1 ∷ 0 ∷ []) ∷ [])) ∷
    -- 21: no living place is free for a copy
    (lines (((turn (crowded rules) (set_made 1024 (set_moving (some (newborn 1 0 1)) (idle (crowded rules) [])))).end ∷ []) ∷ []) gives
    lines ((21 ∷ []) ∷ [])) ∷
    []

pub further : founds further_list ≡ wanteds further_list
unfolding everything server_lines queue_lines record_line printed_state printed lengths both_fit_model both_fit_tape freed_by_other_model freed_by_other_tape chain_model chain_tape returners_model returners_tape copies_model copies_tape spent_model spent_tape zero_ticks_model zero_ticks_tape no_time_model no_time_tape idle_release_model idle_release_tape empty_depart_model empty_depart_tape entry_model entry_tape crowded further_list
further = refl

-- ---- End 22, of document 01 alone

-- a clock near its limit before an ADVANCE of 2
abbrev late : BlockModel
late =
    record { rules = document01; edition = 1; facilities = 0; capacities = []; queues = 0; values = []; lists = 1; counter = 1; blocks = advance 1 ∷ terminate 1 ∷ [] }

abbrev late_state : (clock : ℕ) → State
late_state clock =
    let s : State = idle late ((2 ∷ []) ∷ []) in set_view (set_clock clock s.view) (set_moving (some (newborn 1 0 1)) s)

-- a move time past 2,000,000,000, and one that just reaches it (YearExamples has the later limit)
pub too-late : (turn late (late_state 1999999999)).end ∷ (turn late (late_state 1999999998)).end ∷ [] ≡ 22 ∷ 0 ∷ []
unfolding everything
too-late = refl
