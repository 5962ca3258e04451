-- Document 02, item 6, by computing: ends 27 and 28, what is asked before them, and the runs without the two questions.
use Rattle.machine.specs.Basics.{ℕ, ◌≡◌, refl, Bool, List, [], ◌∷◌, ◌++◌, map, reverse}
use Rattle.machine.specs.{Lists.bit, Rules.Rules, Rules.document01, Rules.document02, Term.server_at, State.State, Run.run, Report.places, OnlyHolder.own_only, Bundle.everything}
use Rattle.machine.specs.Block.{Block, generate, advance, terminate, seize, release, enter, goto, split, BlockModel}

-- one facility, one storage of 1 unit, a counter of 1
abbrev yard : Rules → List Block → BlockModel
yard rules blocks =
    record { rules = rules; edition = 1; facilities = 1; capacities = 1 ∷ []; queues = 0; values = []; lists = 2; counter = 1; blocks = blocks }

-- one transaction, at clock 1, and a time of 5
abbrev tape : List (List ℕ)
tape = (1 ∷ []) ∷ (5 ∷ []) ∷ []

abbrev run_of : Rules → List Block → State
run_of rules blocks = run (yard rules blocks) tape 1000 65536

-- the end, its clock, turns and ended; the records as transaction, block, outcome; the living with their places; the facility's holder
abbrev shown : State → List (List ℕ)
shown s =
    (s.end ∷ s.view.clock ∷ s.turns ∷ s.ended ∷ []) ∷
    map (λ r. r.entry.transaction ∷ r.entry.block ∷ r.entry.outcome ∷ []) (reverse s.records) ++
    map (λ p. p.number ∷ p.place ∷ []) (places s) ++
    ((server_at s.view 1).holder ∷ []) ∷ []

-- do the records tell of a RELEASE by another, or of a TERMINATE by a holder?
abbrev own_records : Rules → List Block → Bool
own_records rules blocks = own_only (yard rules blocks) tape (run_of rules blocks).records

-- ---- A copy releases what its original holds

abbrev crane : List Block
crane = generate 1 0 ∷ seize 1 ∷ split 1 6 ∷ advance 2 ∷ goto 6 ∷ release 1 ∷ terminate 0 ∷ []

-- 27: no record, the copy stays moving, the turn counts, and the original holds the facility
pub released-by_copy : shown (run_of document02 crane)
    ≡ (27 ∷ 1 ∷ 5 ∷ 0 ∷ []) ∷ (1 ∷ 1 ∷ 0 ∷ []) ∷ (1 ∷ 2 ∷ 0 ∷ []) ∷ (1 ∷ 3 ∷ 0 ∷ []) ∷ (1 ∷ 4 ∷ 0 ∷ []) ∷ (1 ∷ 4 ∷ []) ∷ (2 ∷ 6 ∷ []) ∷ (1 ∷ []) ∷ []
unfolding everything
released-by_copy = refl

-- document 01: it is released, and its original finds it idle
pub released-before : shown (run_of document01 crane)
    ≡ (24 ∷ 6 ∷ 8 ∷ 1 ∷ []) ∷ (1 ∷ 1 ∷ 0 ∷ []) ∷ (1 ∷ 2 ∷ 0 ∷ []) ∷ (1 ∷ 3 ∷ 0 ∷ []) ∷ (1 ∷ 4 ∷ 0 ∷ []) ∷ (2 ∷ 6 ∷ 0 ∷ []) ∷ (2 ∷ 7 ∷ 0 ∷ []) ∷ (1 ∷ 5 ∷ 0 ∷ [])
    ∷ (1 ∷ 6 ∷ []) ∷ (0 ∷ []) ∷ []
unfolding everything
released-before = refl

-- ---- 24 is asked before 27

pub idle-released : shown (run_of document02 (generate 1 0 ∷ release 1 ∷ terminate 1 ∷ []))
    ≡ (24 ∷ 1 ∷ 2 ∷ 0 ∷ []) ∷ (1 ∷ 1 ∷ 0 ∷ []) ∷ (1 ∷ 6 ∷ []) ∷ (0 ∷ []) ∷ []
unfolding everything
idle-released = refl

-- ---- 28 is asked before the counter falls to 0

abbrev holding : List Block
holding = generate 1 0 ∷ seize 1 ∷ terminate 1 ∷ []

pub ended-holding : shown (run_of document02 holding)
    ≡ (28 ∷ 1 ∷ 3 ∷ 0 ∷ []) ∷ (1 ∷ 1 ∷ 0 ∷ []) ∷ (1 ∷ 2 ∷ 0 ∷ []) ∷ (1 ∷ 6 ∷ []) ∷ (1 ∷ []) ∷ []
unfolding everything
ended-holding = refl

pub ended-before : shown (run_of document01 holding)
    ≡ (2 ∷ 1 ∷ 3 ∷ 1 ∷ []) ∷ (1 ∷ 1 ∷ 0 ∷ []) ∷ (1 ∷ 2 ∷ 0 ∷ []) ∷ (1 ∷ 3 ∷ 0 ∷ []) ∷ (1 ∷ []) ∷ []
unfolding everything
ended-before = refl

-- ---- A storage has no holder, and a copy's original may end once it has released

pub storage-kept : shown (run_of document02 (generate 1 0 ∷ enter 2 1 ∷ terminate 1 ∷ []))
    ≡ (2 ∷ 1 ∷ 3 ∷ 1 ∷ []) ∷ (1 ∷ 1 ∷ 0 ∷ []) ∷ (1 ∷ 2 ∷ 0 ∷ []) ∷ (1 ∷ 3 ∷ 0 ∷ []) ∷ (0 ∷ []) ∷ []
unfolding everything
storage-kept = refl

abbrev owned : List Block
owned = generate 1 0 ∷ seize 1 ∷ split 1 5 ∷ release 1 ∷ terminate 1 ∷ []

pub own-released : shown (run_of document02 owned)
    ≡ (2 ∷ 1 ∷ 5 ∷ 1 ∷ []) ∷ (1 ∷ 1 ∷ 0 ∷ []) ∷ (1 ∷ 2 ∷ 0 ∷ []) ∷ (1 ∷ 3 ∷ 0 ∷ []) ∷ (1 ∷ 4 ∷ 0 ∷ []) ∷ (1 ∷ 5 ∷ 0 ∷ []) ∷ (2 ∷ 5 ∷ []) ∷ (0 ∷ []) ∷ []
unfolding everything
own-released = refl

-- ---- What the records of the runs without the questions tell

pub records_tell : bit (own_records document01 crane) ∷ bit (own_records document01 holding) ∷ bit (own_records document01 owned) ∷ [] ≡ 0 ∷ 0 ∷ 1 ∷ []
unfolding everything
records_tell = refl
