-- Item 14 by computing: delays of d, of 0 and between; the paper's first example from its bytes; and another program, of which the claim
-- does not hold. Each example gives the ends before, and those after one time was raised.
use Rattle.machine.specs.All.{ℕ, arith, ◌≡◌, refl, ap, subst₂, List, [], ◌∷◌, get_or, in_force, facility_in_use, constant, equal, Block, generate, advance, terminate, seize, release, branch, BlockModel, Validation, accept, reject, validate, everything}
use Rattle.machine.proofs.Examples.{}
use Rattle.slowjob.specs.SlowJob.{jobs, raised, ends, ends_of, Delayed}

-- one facility for each that the blocks name, a counter out of reach
abbrev shop : (facilities : ℕ) → List Block → BlockModel
shop facilities blocks =
    record { rules = in_force; edition = 1; facilities = facilities; capacities = []; queues = 0; values = []; lists = 2; counter = 99; blocks = blocks }

-- the service time at position i raised by d
module _ (m : BlockModel) (arrivals services : List ℕ) (i d : ℕ) where
  abbrev before : List ℕ
  before = ends_of m (arrivals ∷ services ∷ []) 1000 65536

  abbrev after : List ℕ
  after = ends_of m (arrivals ∷ raised i d services ∷ []) 1000 65536

  abbrev both : List (List ℕ)
  both = before ∷ after ∷ []

-- ---- 4 ticks more for the first job

-- three that come together: each end is 4 later
pub all_of_it : both (shop 1 jobs) (0 ∷ 0 ∷ 0 ∷ []) (5 ∷ 5 ∷ 5 ∷ []) 0 4 ≡ (5 ∷ 10 ∷ 15 ∷ []) ∷ (9 ∷ 14 ∷ 19 ∷ []) ∷ []
unfolding everything ends raised
all_of_it = refl

-- the second comes long after the first has left: its end stays
pub nothing_of_it : both (shop 1 jobs) (0 ∷ 50 ∷ []) (5 ∷ 5 ∷ []) 0 4 ≡ (5 ∷ 55 ∷ []) ∷ (9 ∷ 55 ∷ []) ∷ []
unfolding everything ends raised
nothing_of_it = refl

-- the facility stood idle for 3 ticks before the second came: 3 of the 4 are gone
pub fades : both (shop 1 jobs) (0 ∷ 8 ∷ 2 ∷ []) (5 ∷ 5 ∷ 5 ∷ []) 0 4 ≡ (5 ∷ 13 ∷ 18 ∷ []) ∷ (9 ∷ 14 ∷ 19 ∷ []) ∷ []
unfolding everything ends raised
fades = refl

-- ---- The paper's first example, from bytes; its tape with 5 raised to 9

abbrev first_model : List ℕ
first_model = 1 ∷ 1 ∷ 0 ∷ 0 ∷ 0 ∷ 2 ∷ 2 ∷ 5 ∷ 1 ∷ 1 ∷ 0 ∷ 4 ∷ 1 ∷ 2 ∷ 2 ∷ 5 ∷ 1 ∷ 3 ∷ 1 ∷ []

abbrev ends_from : Validation → List ℕ
ends_from (accept m tape) = ends_of m tape 1000 65536
ends_from (reject n) = []

abbrev blocks_from : Validation → List Block
blocks_from (accept m tape) = m.blocks
blocks_from (reject n) = []

pub its-blocks : blocks_from (validate in_force first_model (2 ∷ 3 ∷ 2 ∷ 2 ∷ 5 ∷ 4 ∷ []) 16384 10240) ≡ jobs
unfolding everything
its-blocks = refl

pub its-ends : ends_from (validate in_force first_model (2 ∷ 3 ∷ 2 ∷ 2 ∷ 5 ∷ 4 ∷ []) 16384 10240) ≡ 8 ∷ 12 ∷ []
unfolding everything ends
its-ends = refl

pub its-later-ends : ends_from (validate in_force first_model (2 ∷ 3 ∷ 2 ∷ 2 ∷ 9 ∷ 4 ∷ []) 16384 10240) ≡ 12 ∷ 16 ∷ []
unfolding everything ends
its-later-ends = refl

-- ---- Another program: two facilities with a line each; who finds the first in use goes to the second

abbrev two_lines : List Block
two_lines =
    generate 1 0 ∷ branch (facility_in_use 1) equal (constant 1) 7 ∷ seize 1 ∷ advance 2 ∷ release 1 ∷ terminate 1 ∷ seize 2 ∷ advance 2 ∷ release 2 ∷ terminate 1 ∷ []

-- 2 ticks more for the first job, and the fourth end comes 1 tick earlier
pub earlier : both (shop 2 two_lines) (0 ∷ 2 ∷ 2 ∷ 1 ∷ []) (1 ∷ 4 ∷ 3 ∷ 1 ∷ []) 0 2 ≡ (1 ∷ 6 ∷ 7 ∷ 8 ∷ []) ∷ (3 ∷ 6 ∷ 7 ∷ 7 ∷ []) ∷ []
unfolding everything ends raised
earlier = refl

-- so the claim does not hold of it, with any bound
pub not_of-two-lines : (bound : ℕ)
    → Delayed bound (before (shop 2 two_lines) (0 ∷ 2 ∷ 2 ∷ 1 ∷ []) (1 ∷ 4 ∷ 3 ∷ 1 ∷ []) 0 2) (after (shop 2 two_lines) (0 ∷ 2 ∷ 2 ∷ 1 ∷ []) (1 ∷ 4 ∷ 3 ∷ 1 ∷ []) 0 2) → ⊥
not_of-two-lines bound h = fourth (subst₂ (Delayed bound) (ap (λ l. get_or l 0 []) earlier) (ap (λ l. get_or l 1 []) earlier) h)
  where
    fourth : Delayed bound (1 ∷ 6 ∷ 7 ∷ 8 ∷ []) (3 ∷ 6 ∷ 7 ∷ 7 ∷ []) → ⊥
    fourth h = omega (arith, (h 3 (omega arith) (omega arith)).no-earlier)
