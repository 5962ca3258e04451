-- Document 02, item 8, by computing: families that gather, and what validation refuses.
use Rattle.machine.specs.Basics.{ℕ, ◌+◌, ◌≡◌, refl, List, [], ◌∷◌, ◌++◌, map, reverse, length}
use Rattle.machine.specs.{Lists.flat, Rules.Rules, Rules.item7, Rules.document02, State.State, Run.run, Report.places, Claims.family_by, Claims.come_by, Validate.accept, Validate.reject, Validate.validate, Bundle.everything}
use Rattle.machine.specs.Block.{Block, generate, advance, terminate, seize, split, assemble, BlockModel}

-- one facility, two lists, a counter of 9
abbrev packing : List Block → BlockModel
packing blocks =
    record { rules = document02; edition = 1; facilities = 1; capacities = []; queues = 0; values = []; lists = 2; counter = 9; blocks = blocks }

abbrev run_of : List Block → List (List ℕ) → State
run_of blocks tape = run (packing blocks) tape 1000 65536

-- the end, its clock, made and ended; the records as transaction, block, outcome; the living with their places
abbrev shown : State → List (List ℕ)
shown s =
    (s.end ∷ s.view.clock ∷ s.made ∷ s.ended ∷ []) ∷
    map (λ r. r.entry.transaction ∷ r.entry.block ∷ r.entry.outcome ∷ []) (reverse s.records) ++
    map (λ p. p.number ∷ p.place ∷ []) (places s)

abbrev once : List (List ℕ)
once = (1 ∷ []) ∷ (5 ∷ []) ∷ []

-- Two copies come to their original: it waits, they end, and at the third it goes on without a record.
pub gathers : shown (run_of (generate 1 0 ∷ split 2 3 ∷ assemble 3 ∷ terminate 1 ∷ []) once)
    ≡ (1 ∷ 1 ∷ 3 ∷ 3 ∷ []) ∷ (1 ∷ 1 ∷ 0 ∷ []) ∷ (1 ∷ 2 ∷ 0 ∷ []) ∷ (1 ∷ 3 ∷ 1 ∷ []) ∷ (2 ∷ 3 ∷ 0 ∷ []) ∷ (3 ∷ 3 ∷ 0 ∷ []) ∷ (1 ∷ 4 ∷ 0 ∷ []) ∷ []
unfolding everything
gathers = refl

-- One more is never there: it stays, in place 7, and the run ends dry.
pub never : shown (run_of (generate 1 0 ∷ split 2 3 ∷ assemble 4 ∷ terminate 1 ∷ []) once)
    ≡ (1 ∷ 1 ∷ 3 ∷ 2 ∷ []) ∷ (1 ∷ 1 ∷ 0 ∷ []) ∷ (1 ∷ 2 ∷ 0 ∷ []) ∷ (1 ∷ 3 ∷ 1 ∷ []) ∷ (2 ∷ 3 ∷ 0 ∷ []) ∷ (3 ∷ 3 ∷ 0 ∷ []) ∷ (1 ∷ 7 ∷ []) ∷ []
unfolding everything
never = refl

-- Three copies gather in pairs: the count begins again with the third.
pub twice : shown (run_of (generate 1 0 ∷ split 3 3 ∷ assemble 2 ∷ terminate 1 ∷ []) once)
    ≡ (1 ∷ 1 ∷ 4 ∷ 4 ∷ []) ∷ (1 ∷ 1 ∷ 0 ∷ []) ∷ (1 ∷ 2 ∷ 0 ∷ []) ∷ (1 ∷ 3 ∷ 1 ∷ []) ∷ (2 ∷ 3 ∷ 0 ∷ []) ∷ (3 ∷ 3 ∷ 1 ∷ []) ∷ (4 ∷ 3 ∷ 0 ∷ []) ∷ (1 ∷ 4 ∷ 0 ∷ []) ∷ (3 ∷ 4 ∷ 0 ∷ []) ∷ []
unfolding everything
twice = refl

-- Copies of copies are of the same family; by the records alone too.
abbrev copied : List Block
copied = generate 1 0 ∷ split 1 3 ∷ split 1 4 ∷ assemble 4 ∷ terminate 1 ∷ []

pub copies_of-copies : shown (run_of copied once)
    ≡ (1 ∷ 1 ∷ 4 ∷ 4 ∷ []) ∷ (1 ∷ 1 ∷ 0 ∷ []) ∷ (1 ∷ 2 ∷ 0 ∷ []) ∷ (1 ∷ 3 ∷ 0 ∷ []) ∷ (1 ∷ 4 ∷ 1 ∷ []) ∷ (2 ∷ 3 ∷ 0 ∷ []) ∷ (2 ∷ 4 ∷ 0 ∷ []) ∷ (3 ∷ 4 ∷ 0 ∷ [])
    ∷ (4 ∷ 4 ∷ 0 ∷ []) ∷ (1 ∷ 5 ∷ 0 ∷ []) ∷ []
unfolding everything
copies_of-copies = refl

pub told : family_by (packing copied) once (run_of copied once).records 4 ∷ come_by (packing copied) once (run_of copied once).records 4 1 ∷ [] ≡ 1 ∷ 4 ∷ []
unfolding everything
told = refl

-- Two that GENERATE makes are of two families, and wait each for its own.
pub two-families : shown (run_of (generate 1 0 ∷ split 1 3 ∷ assemble 3 ∷ terminate 1 ∷ []) ((1 ∷ 0 ∷ []) ∷ [] ∷ []))
    ≡ (1 ∷ 1 ∷ 4 ∷ 2 ∷ []) ∷ (1 ∷ 1 ∷ 0 ∷ []) ∷ (1 ∷ 2 ∷ 0 ∷ []) ∷ (1 ∷ 3 ∷ 1 ∷ []) ∷ (3 ∷ 3 ∷ 0 ∷ []) ∷ (2 ∷ 1 ∷ 0 ∷ []) ∷ (2 ∷ 2 ∷ 0 ∷ []) ∷ (2 ∷ 3 ∷ 1 ∷ []) ∷ (4 ∷ 3 ∷ 0 ∷ [])
    ∷ (1 ∷ 7 ∷ []) ∷ (2 ∷ 7 ∷ []) ∷ []
unfolding everything
two-families = refl

-- A copy gathers at once; its original takes the facility and comes later: 28, and the copy stays.
pub holder-comes : shown (run_of (generate 1 0 ∷ split 1 5 ∷ advance 2 ∷ seize 1 ∷ assemble 2 ∷ terminate 1 ∷ []) once)
    ≡ (28 ∷ 6 ∷ 2 ∷ 0 ∷ []) ∷ (1 ∷ 1 ∷ 0 ∷ []) ∷ (1 ∷ 2 ∷ 0 ∷ []) ∷ (1 ∷ 3 ∷ 0 ∷ []) ∷ (2 ∷ 5 ∷ 1 ∷ []) ∷ (1 ∷ 4 ∷ 0 ∷ []) ∷ (1 ∷ 6 ∷ []) ∷ (2 ∷ 7 ∷ []) ∷ []
unfolding everything
holder-comes = refl

-- The first may hold it: its copy comes later, and it goes on.
pub holder-waits : shown (run_of (generate 1 0 ∷ seize 1 ∷ split 1 4 ∷ assemble 2 ∷ advance 2 ∷ terminate 1 ∷ []) once)
    ≡ (28 ∷ 6 ∷ 2 ∷ 1 ∷ []) ∷ (1 ∷ 1 ∷ 0 ∷ []) ∷ (1 ∷ 2 ∷ 0 ∷ []) ∷ (1 ∷ 3 ∷ 0 ∷ []) ∷ (1 ∷ 4 ∷ 1 ∷ []) ∷ (2 ∷ 4 ∷ 0 ∷ []) ∷ (1 ∷ 5 ∷ 0 ∷ []) ∷ (1 ∷ 6 ∷ []) ∷ []
unfolding everything
holder-waits = refl

-- ---- Validation, from bytes: the number of the refusal, 0 for none

-- 1 list, a counter of 1; the blocks stand behind a GENERATE
abbrev bytes : List (List ℕ) → List ℕ
bytes blocks = 1 ∷ 0 ∷ 0 ∷ 0 ∷ 0 ∷ 1 ∷ 1 ∷ (1 + length blocks) ∷ 1 ∷ 1 ∷ 0 ∷ flat blocks

abbrev refusal_of : Rules → List (List ℕ) → ℕ
refusal_of rules blocks = elim (validate rules (bytes blocks) (1 ∷ 1 ∷ []) 16384 10240) [ accept m t ↦ 0 | reject n ↦ n ]

-- 1, 2, 255 and 256 to gather, ASSEMBLE as the last block; and no kind 18 before item 8
pub asked : map (refusal_of document02) (
    ((18 ∷ 1 ∷ []) ∷ (3 ∷ 1 ∷ []) ∷ []) ∷
    ((18 ∷ 2 ∷ []) ∷ (3 ∷ 1 ∷ []) ∷ []) ∷
    ((18 ∷ 129 ∷ 127 ∷ []) ∷ (3 ∷ 1 ∷ []) ∷ []) ∷
    ((18 ∷ 130 ∷ 0 ∷ []) ∷ (3 ∷ 1 ∷ []) ∷ []) ∷
    ((18 ∷ 2 ∷ []) ∷ []) ∷
    [])
    ++ (refusal_of item7 ((18 ∷ 2 ∷ []) ∷ (3 ∷ 1 ∷ []) ∷ []) ∷ [])
    ≡ 4 ∷ 0 ∷ 0 ∷ 4 ∷ 7 ∷ 4 ∷ []
unfolding everything
asked = refl
