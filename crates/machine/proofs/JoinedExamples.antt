-- Document 02, item 7, by computing: ships that leave only when storm and tug allow it at the same clock, and what validation refuses.
use Rattle.machine.specs.Basics.{ℕ, ◌+◌, ◌≡◌, refl, List, [], ◌∷◌, ◌++◌, map, reverse, leb, length}
use Rattle.machine.specs.{Lists.those, Lists.flat, Rules.Rules, Rules.item6, Rules.document02, State.State, Run.run, Validate.accept, Validate.reject, Validate.validate, Bundle.everything}
use Rattle.machine.specs.Block.{U, F, Block, generate, advance, terminate, seize, release, enter, leave, wait_server, BlockModel}

-- two facilities, 1 the storm and 2 the tug, and a storage of 1 berth
abbrev port : List Block → BlockModel
port blocks =
    record { rules = document02; edition = 1; facilities = 2; capacities = 1 ∷ []; queues = 0; values = []; lists = 6; counter = 9; blocks = blocks }

-- the end and the turns; the records from a block on, as clock, transaction, block, outcome
abbrev shown : List Block → (block : ℕ) → List (List ℕ) → List (List ℕ)
shown blocks block tape =
    let s : State = run (port blocks) tape 1000 65536 in
    (s.end ∷ s.turns ∷ []) ∷
    map (λ r. r.entry.clock ∷ r.entry.transaction ∷ r.entry.block ∷ r.entry.outcome ∷ [])
    (those (λ r. leb block r.entry.block) (reverse s.records))

-- ---- Storm (blocks 1 to 5, transaction 1), a tug's other work (6 to 10, transaction 2), ships (11 to 17, transactions 3 and 4)

abbrev harbour : List Block
harbour =
    generate 1 0 ∷ seize 1 ∷ advance 2 ∷ release 1 ∷ terminate 0 ∷
    generate 3 0 ∷ seize 2 ∷ advance 4 ∷ release 2 ∷ terminate 0 ∷
    generate 5 0 ∷ wait_server U 1 0 ∷ wait_server U 2 1 ∷ seize 2 ∷ advance 6 ∷ release 2 ∷ terminate 0 ∷
    []

-- A ship at 2, the tug in use from 1 to 10, a storm from 5 to 20. It passes the storm at 2; at 10 the tug is free, but it passed the storm
-- at an earlier clock. It goes back without a record, and its new wait, for the storm, begins with one.
pub goes_back : shown harbour 12 ((5 ∷ []) ∷ (15 ∷ []) ∷ (1 ∷ []) ∷ (9 ∷ []) ∷ (2 ∷ []) ∷ (3 ∷ []) ∷ [])
    ≡ (1 ∷ 21 ∷ []) ∷ (2 ∷ 3 ∷ 12 ∷ 0 ∷ []) ∷ (2 ∷ 3 ∷ 13 ∷ 1 ∷ []) ∷ (10 ∷ 3 ∷ 12 ∷ 1 ∷ []) ∷ (20 ∷ 3 ∷ 12 ∷ 0 ∷ []) ∷ (20 ∷ 3 ∷ 13 ∷ 0 ∷ []) ∷ (20 ∷ 3 ∷ 14 ∷ 0 ∷ []) ∷ (20 ∷ 3 ∷ 15 ∷ 0 ∷ []) ∷ (23 ∷ 3 ∷ 16 ∷ 0 ∷ []) ∷ (23 ∷ 3 ∷ 17 ∷ 0 ∷ []) ∷ []
unfolding everything
goes_back = refl

-- The tug's other work takes 0 ticks: the clock moves from 2 to 2, which is the same clock. It enters.
pub same-clock : shown harbour 12 ((30 ∷ []) ∷ (15 ∷ []) ∷ (2 ∷ []) ∷ (0 ∷ []) ∷ (2 ∷ []) ∷ (3 ∷ []) ∷ [])
    ≡ (1 ∷ 18 ∷ []) ∷ (2 ∷ 3 ∷ 12 ∷ 0 ∷ []) ∷ (2 ∷ 3 ∷ 13 ∷ 1 ∷ []) ∷ (2 ∷ 3 ∷ 13 ∷ 0 ∷ []) ∷ (2 ∷ 3 ∷ 14 ∷ 0 ∷ []) ∷ (2 ∷ 3 ∷ 15 ∷ 0 ∷ []) ∷ (5 ∷ 3 ∷ 16 ∷ 0 ∷ []) ∷ (5 ∷ 3 ∷ 17 ∷ 0 ∷ []) ∷ []
unfolding everything
same-clock = refl

-- Ships at 2 and 3, no storm before 30. At 10 the first goes back and wakes the second; it enters both waits at 10 and takes the tug, and
-- the second, returning, is put back without a record. At 13 the second goes back itself.
pub put_back : shown harbour 12 ((30 ∷ []) ∷ (15 ∷ []) ∷ (1 ∷ []) ∷ (9 ∷ []) ∷ (2 ∷ 1 ∷ []) ∷ (3 ∷ 4 ∷ []) ∷ [])
    ≡ (1 ∷ 31 ∷ []) ∷ (2 ∷ 3 ∷ 12 ∷ 0 ∷ []) ∷ (2 ∷ 3 ∷ 13 ∷ 1 ∷ []) ∷ (3 ∷ 4 ∷ 12 ∷ 0 ∷ []) ∷ (3 ∷ 4 ∷ 13 ∷ 1 ∷ []) ∷ (10 ∷ 3 ∷ 12 ∷ 0 ∷ []) ∷ (10 ∷ 3 ∷ 13 ∷ 0 ∷ []) ∷ (10 ∷ 3 ∷ 14 ∷ 0 ∷ []) ∷ (10 ∷ 3 ∷ 15 ∷ 0 ∷ []) ∷ (13 ∷ 3 ∷ 16 ∷ 0 ∷ []) ∷ (13 ∷ 3 ∷ 17 ∷ 0 ∷ []) ∷ (13 ∷ 4 ∷ 12 ∷ 0 ∷ []) ∷ (13 ∷ 4 ∷ 13 ∷ 0 ∷ []) ∷ (13 ∷ 4 ∷ 14 ∷ 0 ∷ []) ∷ (13 ∷ 4 ∷ 15 ∷ 0 ∷ []) ∷ (17 ∷ 4 ∷ 16 ∷ 0 ∷ []) ∷ (17 ∷ 4 ∷ 17 ∷ 0 ∷ []) ∷ []
unfolding everything
put_back = refl

-- With a storm from 5 to 20 both go back at 10, the second woken by the first: nobody is left who waits for a tug that is free.
pub both-go-back : shown harbour 12 ((5 ∷ []) ∷ (15 ∷ []) ∷ (1 ∷ []) ∷ (9 ∷ []) ∷ (2 ∷ 1 ∷ []) ∷ (3 ∷ 4 ∷ []) ∷ [])
    ≡ (1 ∷ 35 ∷ []) ∷ (2 ∷ 3 ∷ 12 ∷ 0 ∷ []) ∷ (2 ∷ 3 ∷ 13 ∷ 1 ∷ []) ∷ (3 ∷ 4 ∷ 12 ∷ 0 ∷ []) ∷ (3 ∷ 4 ∷ 13 ∷ 1 ∷ []) ∷ (10 ∷ 3 ∷ 12 ∷ 1 ∷ []) ∷ (10 ∷ 4 ∷ 12 ∷ 1 ∷ []) ∷ (20 ∷ 3 ∷ 12 ∷ 0 ∷ []) ∷ (20 ∷ 3 ∷ 13 ∷ 0 ∷ []) ∷ (20 ∷ 3 ∷ 14 ∷ 0 ∷ []) ∷ (20 ∷ 3 ∷ 15 ∷ 0 ∷ []) ∷ (20 ∷ 4 ∷ 12 ∷ 0 ∷ []) ∷ (20 ∷ 4 ∷ 13 ∷ 1 ∷ []) ∷ (23 ∷ 3 ∷ 16 ∷ 0 ∷ []) ∷ (23 ∷ 3 ∷ 17 ∷ 0 ∷ []) ∷ (23 ∷ 4 ∷ 12 ∷ 0 ∷ []) ∷ (23 ∷ 4 ∷ 13 ∷ 0 ∷ []) ∷ (23 ∷ 4 ∷ 14 ∷ 0 ∷ []) ∷ (23 ∷ 4 ∷ 15 ∷ 0 ∷ []) ∷ (27 ∷ 4 ∷ 16 ∷ 0 ∷ []) ∷ (27 ∷ 4 ∷ 17 ∷ 0 ∷ []) ∷ []
unfolding everything
both-go-back = refl

-- ---- Three waits in one group: storm, berth and tug

abbrev berths : List Block
berths =
    generate 1 0 ∷ enter 3 1 ∷ advance 2 ∷ leave 3 1 ∷ terminate 0 ∷
    generate 3 0 ∷ wait_server U 1 0 ∷ wait_server F 3 0 ∷ wait_server U 2 2 ∷ terminate 9 ∷
    []

-- The berth is full from 1 to 5. At 5 it is free and so is the tug, but the first block of the group was entered at 2.
pub three-waits : shown berths 7 ((1 ∷ []) ∷ (4 ∷ []) ∷ (2 ∷ []) ∷ [] ∷ [] ∷ [] ∷ [])
    ≡ (2 ∷ 14 ∷ []) ∷ (2 ∷ 2 ∷ 7 ∷ 0 ∷ []) ∷ (2 ∷ 2 ∷ 8 ∷ 1 ∷ []) ∷ (5 ∷ 2 ∷ 8 ∷ 0 ∷ []) ∷ (5 ∷ 2 ∷ 7 ∷ 0 ∷ []) ∷ (5 ∷ 2 ∷ 8 ∷ 0 ∷ []) ∷ (5 ∷ 2 ∷ 9 ∷ 0 ∷ []) ∷ (5 ∷ 2 ∷ 10 ∷ 0 ∷ []) ∷ []
unfolding everything
three-waits = refl

-- ---- Validation, from bytes: the number of the refusal, 0 for none

-- kind 8 and kind 17, and the other kinds that stand here
abbrev waitif : List ℕ
waitif = 8 ∷ 1 ∷ 1 ∷ []

abbrev joined : ℕ → List ℕ
joined c = 17 ∷ 1 ∷ 2 ∷ c ∷ []

abbrev wait_terms : List ℕ
wait_terms = 9 ∷ 0 ∷ 1 ∷ 1 ∷ 0 ∷ 2 ∷ []

abbrev branch : ℕ → List ℕ
branch target = 10 ∷ 0 ∷ 1 ∷ 1 ∷ 0 ∷ 2 ∷ target ∷ []

abbrev goto : ℕ → List ℕ
goto target = 11 ∷ target ∷ []

abbrev split : ℕ → List ℕ
split target = 14 ∷ 1 ∷ target ∷ []

-- 2 facilities, 1 list, a counter of 1; the blocks stand from number 2 on, behind a GENERATE and before a TERMINATE
abbrev bytes : List (List ℕ) → List ℕ
bytes blocks = 1 ∷ 2 ∷ 0 ∷ 0 ∷ 0 ∷ 1 ∷ 1 ∷ (2 + length blocks) ∷ 1 ∷ 1 ∷ 0 ∷ (flat blocks ++ 3 ∷ 1 ∷ [])

abbrev refusal_of : Rules → List ℕ → ℕ
refusal_of rules model = elim (validate rules model (1 ∷ 1 ∷ []) 16384 10240) [ accept m t ↦ 0 | reject n ↦ n ]

abbrev refusals : List (List (List ℕ)) → List ℕ
refusals l = map (λ blocks. refusal_of document02 (bytes blocks)) l

-- a group of one, behind waits that it does not join, of seven, and two on one server
pub groups : refusals (
    (waitif ∷ joined 1 ∷ []) ∷
    (waitif ∷ waitif ∷ joined 1 ∷ []) ∷
    (waitif ∷ waitif ∷ waitif ∷ waitif ∷ waitif ∷ waitif ∷ waitif ∷ joined 7 ∷ []) ∷
    (waitif ∷ joined 1 ∷ waitif ∷ joined 1 ∷ []) ∷
    [])
    ≡ 0 ∷ 0 ∷ 0 ∷ 0 ∷ []
unfolding everything
groups = refl

-- a back count of 0 and of 8
pub back-counts : refusals (
    (waitif ∷ joined 0 ∷ []) ∷
    (waitif ∷ waitif ∷ waitif ∷ waitif ∷ waitif ∷ waitif ∷ waitif ∷ waitif ∷ joined 8 ∷ []) ∷
    [])
    ≡ 4 ∷ 4 ∷ []
unfolding everything
back-counts = refl

-- fewer blocks before it than its count, another kind among them, which may be a WAITIF of terms or a kind 17
pub broken : refusals (
    (joined 1 ∷ []) ∷
    (waitif ∷ joined 3 ∷ []) ∷
    (waitif ∷ split 4 ∷ joined 1 ∷ []) ∷
    (waitif ∷ wait_terms ∷ waitif ∷ joined 3 ∷ []) ∷
    (waitif ∷ joined 1 ∷ joined 1 ∷ []) ∷
    (waitif ∷ joined 1 ∷ waitif ∷ joined 2 ∷ []) ∷
    [])
    ≡ 7 ∷ 7 ∷ 7 ∷ 7 ∷ 7 ∷ 7 ∷ []
unfolding everything
broken = refl

-- the group of blocks 2 to 4: its first block and the block behind it may be a target, the second and the kind 17 block may not
pub targets : refusals (
    (waitif ∷ waitif ∷ joined 2 ∷ goto 2 ∷ []) ∷
    (waitif ∷ waitif ∷ joined 2 ∷ goto 5 ∷ []) ∷
    (waitif ∷ waitif ∷ joined 2 ∷ goto 3 ∷ []) ∷
    (waitif ∷ waitif ∷ joined 2 ∷ goto 4 ∷ []) ∷
    (waitif ∷ waitif ∷ joined 2 ∷ branch 2 ∷ []) ∷
    (waitif ∷ waitif ∷ joined 2 ∷ branch 3 ∷ []) ∷
    (waitif ∷ waitif ∷ joined 2 ∷ split 2 ∷ []) ∷
    (waitif ∷ waitif ∷ joined 2 ∷ split 4 ∷ []) ∷
    [])
    ≡ 0 ∷ 0 ∷ 7 ∷ 7 ∷ 0 ∷ 7 ∷ 0 ∷ 7 ∷ []
unfolding everything
targets = refl

-- a number that follows is asked for first; there is no kind 17 before item 7
pub asked-before : refusal_of document02 (bytes (joined 1 ∷ []) ++ 0 ∷ []) ∷ refusal_of item6 (bytes (waitif ∷ joined 1 ∷ [])) ∷ [] ≡ 6 ∷ 4 ∷ []
unfolding everything
asked-before = refl
