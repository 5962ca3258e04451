-- Document 02, item 14, "How far one slow job reaches". Proved in ../proofs/SlowJob.antt.
--
-- Jobs come one after the other, wait for one facility, are served and leave. One service time is raised by d ticks, and nothing else.
-- Then the k-th end, of each k that both runs come to, is no earlier than before and at most d ticks later.
use Rattle.std.specs.Prelude.{◌+◌, ◌-◌, ◌≤◌, ◌<◌, ◌≡◌, ◌∷◌}
use Rattle.machine.specs.All.{ℕ, zero, suc, max, List, [], map, eqb, length, get_or, set, Rules, in_force, those, Block, generate, seize, advance, release, terminate, facts, BlockModel, block_at, Record, trace_bytes_lem, run, accept, validate, records_of, outcome}
use Rattle.trace.specs.Whole.{Reads}

-- ---- "the block program of 01's first example"

abbrev pub jobs : List Block
jobs = generate 1 0 ∷ seize 1 ∷ advance 2 ∷ release 1 ∷ terminate 1 ∷ []

-- any model with these blocks, for tapes of two lists and perhaps others, which nobody reads; any counter and any rules
pub record JobLine (m : BlockModel) (others : List (List ℕ)) : Type 0 where
  pub program : m.blocks ≡ jobs
  pub facility : 1 ≤ m.facilities
  pub lists : m.lists ≡ 2 + length others

-- ---- "Raise one time of the second list by d ticks": the one at position i, counted from 0

unfoldable pub raised : (i d : ℕ) → List ℕ → List ℕ
raised i d times = set times i (get_or times i 0 + d)

-- ---- The clocks of the TERMINATEs, in the order of the trace

unfoldable pub ends : BlockModel → List Record → List ℕ
ends m records = map (λ r. r.clock) (those (λ r. eqb (facts (block_at m r.block)).terminates 1) records)

abbrev pub ends_of : BlockModel → (tape : List (List ℕ)) (budget room : ℕ) → List ℕ
ends_of m tape budget room = ends m (records_of (run m tape budget room))

-- "For each k that both traces reach, the clock of the k-th TERMINATE is no earlier than before and at most d later."
pub record Late (d before after : ℕ) : Type 0 where
  pub no-earlier : before ≤ after
  pub at_most : after ≤ before + d

abbrev pub Delayed : (d : ℕ) (before after : List ℕ) → Type 0
Delayed d before after = (k : ℕ) → k < length before → k < length after → Late d (get_or before k 0) (get_or after k 0)

-- ---- The claim, of decoded tapes: any budgets of turns and any lengths of the two traces. No counter needs to stay out of reach: a run that
-- ends early reaches fewer k.

abbrev pub SlowJob : Type 0
SlowJob =
    (m : BlockModel) (others : List (List ℕ)) → JobLine m others → (arrivals services : List ℕ) (i d budget room budget' room' : ℕ)
    → Delayed d (ends_of m (arrivals ∷ services ∷ others) budget room) (ends_of m (arrivals ∷ raised i d services ∷ others) budget' room')

-- ---- The claim, from bytes: both tapes are accepted, and the two traces are the bytes of records of which it holds.

pub record Traces (d : ℕ) (m : BlockModel) (before after : List ℕ) : Type 0 where
  pub records : List Record
  pub bytes : before ≡ trace_bytes_lem records
  pub records' : List Record
  pub bytes' : after ≡ trace_bytes_lem records'
  pub delayed : Delayed d (ends m records) (ends m records')

abbrev pub SlowJobBytes : Type 0
SlowJobBytes =
    (rules : Rules) (model tape tape' : List ℕ) (work report work' report' : ℕ) (m : BlockModel) (arrivals services : List ℕ) (others : List (List ℕ)) (i d : ℕ)
    → validate rules model tape work report ≡ accept m (arrivals ∷ services ∷ others)
    → validate rules model tape' work' report' ≡ accept m (arrivals ∷ raised i d services ∷ others)
    → m.blocks ≡ jobs → (budget room budget' room' : ℕ)
    → Traces d m (outcome rules model tape budget work room report).trace (outcome rules model tape' budget' work' room' report').trace

-- ---- The same of the records that the trace reader takes from the two traces, under the rules in force

abbrev pub SlowJobRead : Type 0
SlowJobRead =
    (model tape tape' : List ℕ) (work report work' report' : ℕ) (m : BlockModel) (arrivals services : List ℕ) (others : List (List ℕ)) (i d : ℕ)
    → validate in_force model tape work report ≡ accept m (arrivals ∷ services ∷ others)
    → validate in_force model tape' work' report' ≡ accept m (arrivals ∷ raised i d services ∷ others)
    → m.blocks ≡ jobs → (budget room budget' room' : ℕ) (records records' : List Record)
    → Reads (outcome in_force model tape budget work room report).trace 0 records
    → Reads (outcome in_force model tape' budget' work' room' report').trace 0 records'
    → Delayed d (ends m records) (ends m records')

-- ---- More is shown: each end exactly. Whoever comes k-th comes at the sum of the first k times; the k-th service begins as soon as both the
-- k-th has come and the one before has ended.

unfoldable pub comes : (arrivals : List ℕ) → ℕ → ℕ
comes arrivals zero = 0
comes arrivals (suc k) = comes arrivals k + get_or arrivals k 0

unfoldable pub leaves : (arrivals services : List ℕ) → ℕ → ℕ
leaves arrivals services zero = 0
leaves arrivals services (suc k) = max (comes arrivals (suc k)) (leaves arrivals services k) + get_or services k 0

abbrev pub EachEnd : Type 0
EachEnd =
    (m : BlockModel) (others : List (List ℕ)) → JobLine m others → (arrivals services : List ℕ) (budget room k : ℕ)
    → k < length (ends_of m (arrivals ∷ services ∷ others) budget room)
    → get_or (ends_of m (arrivals ∷ services ∷ others) budget room) k 0 ≡ leaves arrivals services (suc k)

-- And how a delay fades: before each other service than the raised one, it falls by as many ticks as the facility stood idle there, down to 0.
abbrev pub Fades : Type 0
Fades =
    (arrivals services : List ℕ) (i d k : ℕ) → (k ≡ i → ⊥)
    → leaves arrivals (raised i d services) (suc k)
    ≡ leaves arrivals services (suc k) + ((leaves arrivals (raised i d services) k - leaves arrivals services k) - (comes arrivals (suc k) - leaves arrivals services k))
