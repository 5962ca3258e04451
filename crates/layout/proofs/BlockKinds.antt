-- One walk through all kinds: a block is one that counts, statistics, the start or the WS scheme ask for by its number, or it is
-- none of these, and then neither its number nor its facts say anything to them.
use Rattle.machine.specs.All.{ℕ, zero, suc, ◌≡◌, refl, Bool, true, false, ◌||◌, true≢false, List, ◌∷◌, Option, none, eqb, Term, Relation, Condition, always, when_true, Facts, Code, Share, facility, storage, up, down, Block, generate, advance, terminate, takes, frees, wait_server, wait_terms, moves, assign, priority, split, counts, assemble, preempt, give_back, facts}
use Rattle.layout.specs.All.{block_numbers, block_forms}

-- ---- Definition

-- the facts that they ask for
pub record Asked : Type 0 where
  pub generates : ℕ
  pub server : ℕ
  pub units : ℕ
  pub queue : ℕ
  pub waits_while : Option Condition

abbrev pub asked_of : Facts → Asked
asked_of f =
    record { generates = f.generates; server = f.server; units = f.units; queue = f.queue; waits_while = f.waits_while }

abbrev pub not_asked : Asked
not_asked = record { generates = 0; server = 0; units = 0; queue = 0; waits_while = none }

-- GENERATE, SEIZE, ENTER, WAITIF of terms, ARRIVE and PREEMPT
abbrev pub asked : ℕ → Bool
asked kind = eqb kind 1 || (eqb kind 4 || (eqb kind 6 || (eqb kind 9 || (eqb kind 15 || eqb kind 19))))

pub data Kinds (b : Block) : Type 0 where
  generating : (list p : ℕ) → b ≡ generate list p → Kinds b
  taking : (x : Share) → b ≡ takes x → Kinds b
  waiting : (left : Term) (relation : Relation) (right : Term) → b ≡ wait_terms left relation right → Kinds b
  arriving : (q : ℕ) → b ≡ counts up q → Kinds b
  preempting : (f : ℕ) → b ≡ preempt f → Kinds b
  other : (kind : ℕ) (rest : List ℕ) → block_numbers b ≡ kind ∷ rest → asked kind ≡ false → asked_of (facts b) ≡ not_asked → Kinds b

-- ---- The walk

pub kinds : (b : Block) → Kinds b
unfolding block_forms
kinds (generate list p) = generating list p refl
kinds (advance list) = other 2 _ refl refl refl
kinds (terminate a) = other 3 _ refl refl refl
kinds (takes x) = taking x refl
kinds (frees (facility v)) = other 5 _ refl refl refl
kinds (frees (storage v b)) = other 7 _ refl refl refl
kinds (wait_server code v zero) = other 8 _ refl refl refl
kinds (wait_server code v (suc c)) = other 17 _ refl refl refl
kinds (wait_terms a r b) = waiting a r b refl
kinds (moves always target) = other 11 _ refl refl refl
kinds (moves (when_true a r b) target) = other 10 _ refl refl refl
kinds (assign k a) = other 12 _ refl refl refl
kinds (priority p) = other 13 _ refl refl refl
kinds (split n target) = other 14 _ refl refl refl
kinds (counts up q) = arriving q refl
kinds (counts down q) = other 16 _ refl refl refl
kinds (assemble n) = other 18 _ refl refl refl
kinds (preempt f) = preempting f refl
kinds (give_back f) = other 20 _ refl refl refl

-- ---- Of another kind

-- a number that is not asked for is none of the six
pub record Unasked (kind : ℕ) : Type 0 where
  pub no-generate : eqb kind 1 ≡ false
  pub no-seize : eqb kind 4 ≡ false
  pub no-enter : eqb kind 6 ≡ false
  pub no_wait : eqb kind 9 ≡ false
  pub no-arrive : eqb kind 15 ≡ false
  pub no-preempt : eqb kind 19 ≡ false

either : (a b : Bool) → (a || b) ≡ false → (a ≡ false) × (b ≡ false)
either true b e = absurd (true≢false e)
either false b e = (refl, e)

pub unasked : (kind : ℕ) → asked kind ≡ false → Unasked kind
unasked kind e =
    let a = either (eqb kind 1) _ e in
    let b = either (eqb kind 4) _ a.1 in
    let c = either (eqb kind 6) _ b.1 in
    let d = either (eqb kind 9) _ c.1 in
    let e = either (eqb kind 15) _ d.1 in
    record { no-generate = a.0; no-seize = b.0; no-enter = c.0; no_wait = d.0; no-arrive = e.0; no-preempt = e.1 }

-- ---- The walk for groups: a server wait with a back count, one without, or none

pub data Waits (b : Block) : Type 0 where
  closing : (code : Code) (v c : ℕ) → b ≡ wait_server code v (suc c) → Waits b
  plain : (code : Code) (v : ℕ) → b ≡ wait_server code v 0 → Waits b
  elsewhere : (kind : ℕ) (rest : List ℕ) → block_numbers b ≡ kind ∷ rest → eqb kind 17 ≡ false → eqb kind 8 ≡ false → (facts b).wel ≡ 0
      → (facts b).back ≡ 0 → Waits b

pub waits : (b : Block) → Waits b
unfolding block_forms
waits (generate list p) = elsewhere 1 _ refl refl refl refl refl
waits (advance list) = elsewhere 2 _ refl refl refl refl refl
waits (terminate a) = elsewhere 3 _ refl refl refl refl refl
waits (takes (facility v)) = elsewhere 4 _ refl refl refl refl refl
waits (takes (storage v b)) = elsewhere 6 _ refl refl refl refl refl
waits (frees (facility v)) = elsewhere 5 _ refl refl refl refl refl
waits (frees (storage v b)) = elsewhere 7 _ refl refl refl refl refl
waits (wait_server code v zero) = plain code v refl
waits (wait_server code v (suc c)) = closing code v c refl
waits (wait_terms a r b) = elsewhere 9 _ refl refl refl refl refl
waits (moves always target) = elsewhere 11 _ refl refl refl refl refl
waits (moves (when_true a r b) target) = elsewhere 10 _ refl refl refl refl refl
waits (assign k a) = elsewhere 12 _ refl refl refl refl refl
waits (priority p) = elsewhere 13 _ refl refl refl refl refl
waits (split n target) = elsewhere 14 _ refl refl refl refl refl
waits (counts up q) = elsewhere 15 _ refl refl refl refl refl
waits (counts down q) = elsewhere 16 _ refl refl refl refl refl
waits (assemble n) = elsewhere 18 _ refl refl refl refl refl
waits (preempt f) = elsewhere 19 _ refl refl refl refl refl
waits (give_back f) = elsewhere 20 _ refl refl refl refl refl
