-- Document 02, item 11, by computing: a crane that is taken over and given back, who waits, what is asked, and why the order among equals
-- speaks only of facilities that no PREEMPT names.
use Rattle.machine.specs.Basics.{ℕ, ◌≡◌, refl, true, false, List, [], ◌∷◌, ◌++◌, map, reverse, get_or, take}
use Rattle.machine.specs.{Lists.bit, Term.constant, Term.entries_of, Term.less, State.State, State.Logged, Run.run, Report.places, Report.report_numbers, Outcome.outcome, OnlyHolder.asking, Bundle.everything}
use Rattle.machine.specs.Rules.{Rules, item8, item11, document02}
use Rattle.machine.specs.Block.{Block, generate, advance, terminate, seize, release, wait_terms, split, preempt, give_back, BlockModel}
use Rattle.machine.specs.Claims.{no_record_lem, wait_end, equal_waits, preempt_names}

-- one facility
abbrev yard : Rules → List Block → BlockModel
yard rules blocks =
    record { rules = rules; edition = 1; facilities = 1; capacities = []; queues = 0; values = []; lists = 5; counter = 9; blocks = blocks }

abbrev run_of : (budget : ℕ) → List Block → List (List ℕ) → State
run_of budget blocks tape = run (yard document02 blocks) tape budget 65536

-- the end and its clock; the records as clock, transaction, block, outcome
abbrev shown : State → List (List ℕ)
shown s =
    (s.end ∷ s.view.clock ∷ []) ∷
    map (λ r. r.entry.clock ∷ r.entry.transaction ∷ r.entry.block ∷ r.entry.outcome ∷ []) (reverse s.records)

-- ---- Unloading (blocks 1 to 5) and an urgent lift of a priority (6 to 10)

abbrev crane : (priority : ℕ) → List Block
crane p =
    generate 1 0 ∷ seize 1 ∷ advance 3 ∷ release 1 ∷ terminate 0 ∷
    generate 2 p ∷ preempt 1 ∷ advance 4 ∷ give_back 1 ∷ terminate 0 ∷
    []

-- unloading from 1 takes 10 ticks, the lift from 3 takes 4
abbrev lift : List (List ℕ)
lift = (1 ∷ []) ∷ (3 ∷ []) ∷ (10 ∷ []) ∷ (4 ∷ []) ∷ []

-- at 3 unloading is interrupted with 8 ticks left; at 7 the crane is given back, and unloading ends at 15
pub taken-over : shown (run_of 1000 (crane 1) lift)
    ≡ (1 ∷ 15 ∷ []) ∷ (1 ∷ 1 ∷ 1 ∷ 0 ∷ []) ∷ (1 ∷ 1 ∷ 2 ∷ 0 ∷ []) ∷ (1 ∷ 1 ∷ 3 ∷ 0 ∷ []) ∷ (3 ∷ 2 ∷ 6 ∷ 0 ∷ []) ∷ (3 ∷ 2 ∷ 7 ∷ 0 ∷ []) ∷ (3 ∷ 2 ∷ 8 ∷ 0 ∷ [])
    ∷ (7 ∷ 2 ∷ 9 ∷ 0 ∷ []) ∷ (7 ∷ 2 ∷ 10 ∷ 0 ∷ []) ∷ (15 ∷ 1 ∷ 4 ∷ 0 ∷ []) ∷ (15 ∷ 1 ∷ 5 ∷ 0 ∷ []) ∷ []
unfolding everything
taken-over = refl

-- the interrupted ones, each with facility and remaining ticks, and the living with their places, after six turns
abbrev interrupted_after : State → List (List ℕ)
interrupted_after s =
    map (λ i. i.who.number ∷ i.facility ∷ i.remaining ∷ []) s.interrupted ++ map (λ p. p.number ∷ p.place ∷ []) (places s)

pub place_eight : interrupted_after (run_of 6 (crane 1) lift) ≡ (1 ∷ 1 ∷ 8 ∷ []) ∷ (2 ∷ 4 ∷ []) ∷ (1 ∷ 8 ∷ []) ∷ []
unfolding everything
place_eight = refl

-- of equal priority the lift waits on the QL; its RETURN, with nobody interrupted, acts as RELEASE
pub equals_wait : shown (run_of 1000 (crane 0) lift)
    ≡ (1 ∷ 15 ∷ []) ∷ (1 ∷ 1 ∷ 1 ∷ 0 ∷ []) ∷ (1 ∷ 1 ∷ 2 ∷ 0 ∷ []) ∷ (1 ∷ 1 ∷ 3 ∷ 0 ∷ []) ∷ (3 ∷ 2 ∷ 6 ∷ 0 ∷ []) ∷ (3 ∷ 2 ∷ 7 ∷ 1 ∷ [])
    ∷ (11 ∷ 1 ∷ 4 ∷ 0 ∷ []) ∷ (11 ∷ 1 ∷ 5 ∷ 0 ∷ []) ∷ (11 ∷ 2 ∷ 7 ∷ 0 ∷ []) ∷ (11 ∷ 2 ∷ 8 ∷ 0 ∷ []) ∷ (15 ∷ 2 ∷ 9 ∷ 0 ∷ []) ∷ (15 ∷ 2 ∷ 10 ∷ 0 ∷ []) ∷ []
unfolding everything
equals_wait = refl

-- the report: clock, made, ended; entries, unit ticks, waits, ticks waited, longest QL
abbrev reported : (priority : ℕ) → List ℕ
reported p = take 8 (report_numbers (yard document02 (crane p)) (run_of 1000 (crane p) lift))

pub counted : reported 1 ∷ reported 0 ∷ [] ≡ (15 ∷ 2 ∷ 2 ∷ 2 ∷ 14 ∷ 0 ∷ 0 ∷ 0 ∷ []) ∷ (15 ∷ 2 ∷ 2 ∷ 2 ∷ 14 ∷ 1 ∷ 8 ∷ 1 ∷ []) ∷ []
unfolding everything
counted = refl

-- A second lift, of priority 2, comes at 5: a preempted crane is not preempted again, and its giving back at 7 wakes nobody.
pub not-again : shown (run_of 1000 (crane 1 ++ (generate 5 2 ∷ preempt 1 ∷ give_back 1 ∷ terminate 0 ∷ [])) (lift ++ ((5 ∷ []) ∷ [])))
    ≡ (1 ∷ 15 ∷ []) ∷ (1 ∷ 1 ∷ 1 ∷ 0 ∷ []) ∷ (1 ∷ 1 ∷ 2 ∷ 0 ∷ []) ∷ (1 ∷ 1 ∷ 3 ∷ 0 ∷ []) ∷ (3 ∷ 2 ∷ 6 ∷ 0 ∷ []) ∷ (3 ∷ 2 ∷ 7 ∷ 0 ∷ []) ∷ (3 ∷ 2 ∷ 8 ∷ 0 ∷ [])
    ∷ (5 ∷ 3 ∷ 11 ∷ 0 ∷ []) ∷ (5 ∷ 3 ∷ 12 ∷ 1 ∷ []) ∷ (7 ∷ 2 ∷ 9 ∷ 0 ∷ []) ∷ (7 ∷ 2 ∷ 10 ∷ 0 ∷ []) ∷ (15 ∷ 1 ∷ 4 ∷ 0 ∷ []) ∷ (15 ∷ 1 ∷ 5 ∷ 0 ∷ [])
    ∷ (15 ∷ 3 ∷ 12 ∷ 0 ∷ []) ∷ (15 ∷ 3 ∷ 13 ∷ 0 ∷ []) ∷ (15 ∷ 3 ∷ 14 ∷ 0 ∷ []) ∷ []
unfolding everything
not-again = refl

-- ---- Questions

-- of one transaction, at clock 1: the end, and the records written
abbrev asked : Rules → List Block → List ℕ
asked rules blocks = let s : State = run (yard rules (generate 1 0 ∷ blocks)) ((1 ∷ []) ∷ []) 1000 65536 in s.end ∷ map (λ r. r.entry.block) s.records

-- RETURN of an idle one 24, of a seized one by its own holder 27; RELEASE of a preempted one by its holder 27, also where the rules do not
-- ask holders; TERMINATE while holding by PREEMPT 28
pub questions :
    asked document02 (give_back 1 ∷ terminate 0 ∷ [])
    ∷ asked document02 (seize 1 ∷ give_back 1 ∷ terminate 0 ∷ [])
    ∷ asked document02 (preempt 1 ∷ release 1 ∷ terminate 0 ∷ [])
    ∷ asked (asking false document02) (preempt 1 ∷ release 1 ∷ terminate 0 ∷ [])
    ∷ asked document02 (preempt 1 ∷ terminate 0 ∷ [])
    ∷ asked (asking false document02) (preempt 1 ∷ terminate 0 ∷ [])
    ∷ []
    ≡ (24 ∷ 1 ∷ []) ∷ (27 ∷ 2 ∷ 1 ∷ []) ∷ (27 ∷ 2 ∷ 1 ∷ []) ∷ (27 ∷ 2 ∷ 1 ∷ []) ∷ (28 ∷ 2 ∷ 1 ∷ []) ∷ (1 ∷ 3 ∷ 2 ∷ 1 ∷ []) ∷ []
unfolding everything
questions = refl

-- a clock limit of 12
abbrev short : Rules
short = record { max_clock = 12; max_time = 12; max_number = document02.max_number; holders = true; kinds = document02.kinds; editions = 1 }

-- The lift leaves a copy behind, and both come to RETURN. Unloading has 8 ticks left, and at 7 these pass the limit: 22 for the one who
-- preempted, but 27 for the copy, which is asked first.
abbrev returned : (original copy : ℕ) → List ℕ
returned original copy =
    let blocks : List Block =
    generate 1 0 ∷ seize 1 ∷ advance 3 ∷ release 1 ∷ terminate 0 ∷ generate 2 1 ∷ preempt 1 ∷ split 1 9 ∷ advance 4 ∷ give_back 1 ∷ terminate 0 ∷ [] in
    let s : State = run (yard short blocks) ((1 ∷ []) ∷ (3 ∷ []) ∷ (10 ∷ []) ∷ (original ∷ copy ∷ []) ∷ []) 1000 65536 in
    s.end ∷ s.view.clock ∷ []

pub asked_in-order : returned 4 8 ∷ returned 8 4 ∷ [] ≡ (22 ∷ 7 ∷ []) ∷ (27 ∷ 7 ∷ []) ∷ []
unfolding everything
asked_in-order = refl

-- ---- The order among equals

-- Transaction 1 holds the crane and waits until the third has come; then it releases and seizes the crane twice, and goes on the FEL. So
-- both waiters of priority 1 are woken: the second, at SEIZE, is put back, and the third, at PREEMPT, takes the crane from the first.
abbrev overtaking : List Block
overtaking =
    generate 1 0 ∷ seize 1 ∷ wait_terms (entries_of 15) less (constant 1) ∷ release 1 ∷ seize 1 ∷ release 1 ∷ seize 1 ∷ advance 4 ∷ release 1 ∷ terminate 0 ∷
    generate 2 1 ∷ seize 1 ∷ release 1 ∷ terminate 0 ∷
    generate 3 1 ∷ preempt 1 ∷ give_back 1 ∷ terminate 0 ∷
    []

abbrev overtaking_tape : List (List ℕ)
overtaking_tape = (1 ∷ []) ∷ (2 ∷ []) ∷ (3 ∷ []) ∷ (4 ∷ []) ∷ []

-- the waits for the crane begun with records 4 and 6: are they equal, where does each end, and does a PREEMPT name the crane?
abbrev overtaken : List ℕ
overtaken =
    let m : BlockModel = yard document02 overtaking in
    let records : List Logged = reverse (run m overtaking_tape 1000 65536).records in
    bit (equal_waits m overtaking_tape (get_or records 4 no_record_lem) (get_or records 6 no_record_lem)) ∷ wait_end records 4 ∷ wait_end records 6
    ∷ bit (preempt_names m overtaking_tape 1) ∷ []

-- the later wait ends first
pub overtakes : overtaken ≡ 1 ∷ 18 ∷ 13 ∷ 1 ∷ []
unfolding everything
overtakes = refl

-- ---- Validation

-- PREEMPT f and RETURN f in a model of one facility
abbrev bare : ℕ → List ℕ
bare f = 1 ∷ 1 ∷ 0 ∷ 0 ∷ 0 ∷ 0 ∷ 1 ∷ 3 ∷ 19 ∷ f ∷ 20 ∷ f ∷ 3 ∷ 1 ∷ []

abbrev refusal : Rules → ℕ → ℕ
refusal rules f = (outcome rules (bare f) [] 1000 16384 65536 10240).refusal

pub kinds : refusal document02 1 ∷ refusal document02 0 ∷ refusal document02 2 ∷ refusal item11 1 ∷ refusal item8 1 ∷ [] ≡ 0 ∷ 4 ∷ 4 ∷ 0 ∷ 4 ∷ []
unfolding everything
kinds = refl
