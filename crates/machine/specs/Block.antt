-- Blocks, "Kind and operands as stored", and the model that holds them. Server operands are server numbers: a facility's own
-- number, and for a storage its number after all facilities (Term.antt, `Server`).
use Rattle.std.specs.Prelude.{◌+◌, ◌*◌, ◌-◌, ◌∷◌}
use Rattle.machine.specs.Basics.{ℕ, suc, Bool, true, false, not, List, [], some, ltb, leb, eqb}
use Rattle.machine.specs.{Lists.nth, Lists.bit, Lists.up_to, Limits.max_back, Rules.Rules}
use Rattle.machine.specs.Term.{Server, Term, Relation, Condition, always, when_true, Sum}
use Rattle.machine.specs.Facts.{Facts, no_facts, set_generates, set_rank, set_uses, set_terminates, set_copies, set_gathers, set_server, set_units, set_queue, set_releases, set_preempts, set_target, set_leaves, set_wel, set_back, set_waits_while, set_terms}

-- Lists, "WEL: one per server and status code: 1 U (in use), 2 NU for facilities; 3 E (empty), 4 NE, 5 F (full), 6 NF for storages."
pub data Code : Type 0 where
  U NU E NE F NF : Code

-- is a server in the state that a code names?
unfoldable pub status : Code → Server → Bool
status U v = ltb 0 v.in_use
status NU v = eqb v.in_use 0
status E v = eqb v.in_use 0
status NE v = ltb 0 v.in_use
status F v = eqb v.in_use v.capacity
status NF v = not (eqb v.in_use v.capacity)

-- the code's number, less one
unfoldable pub code_index : Code → ℕ
code_index U = 0
code_index NU = 1
code_index E = 2
code_index NE = 3
code_index F = 4
code_index NF = 5

-- What a block takes or frees: the one unit of a facility, or units of a storage.
pub data Share : Type 0 where
  facility : (server : ℕ) → Share
  storage : (server units : ℕ) → Share

unfoldable pub share_server : Share → ℕ
share_server (facility v) = v
share_server (storage v b) = v

unfoldable pub share_units : Share → ℕ
share_units (facility v) = 1
share_units (storage v b) = b

-- 0 for a storage
unfoldable pub share_facility : Share → ℕ
share_facility (facility v) = v
share_facility (storage v b) = 0

-- who holds the server once a transaction has taken its share
unfoldable pub share_holder : Share → (number : ℕ) → ℕ
share_holder (facility v) n = n
share_holder (storage v b) n = 0

-- Which way the content of a queue goes.
pub data Change : Type 0 where
  up down : Change

-- What a block does, in the paper's order; kinds that differ in an operand alone are one line.
pub data Block : Type 0 where
  -- 1 GENERATE list, priority
  generate : (list priority : ℕ) → Block
  -- 2 ADVANCE list
  advance : (list : ℕ) → Block
  -- 3 TERMINATE a
  terminate : (a : ℕ) → Block
  -- 4 SEIZE f and 6 ENTER s, b; 5 RELEASE f and 7 LEAVE s, b
  takes frees : (share : Share) → Block
  -- 8 WAITIF code, server, with back count 0; 17 (document 02, item 7) code, server, back count
  wait_server : (code : Code) (server back : ℕ) → Block
  -- 9 WAITIF left, relation, right
  wait_terms : (left : Term) (relation : Relation) (right : Term) → Block
  -- 10 IF left, relation, right, target and 11 GOTO target
  moves : (condition : Condition) (target : ℕ) → Block
  -- 12 LET parameter, term
  assign : (parameter : ℕ) (term : Term) → Block
  -- 13 PRIORITY p
  priority : (p : ℕ) → Block
  -- 14 SPLIT n, target
  split : (n target : ℕ) → Block
  -- 15 ARRIVE q and 16 DEPART q
  counts : (change : Change) (queue : ℕ) → Block
  -- 18 ASSEMBLE n (document 02, item 8)
  assemble : (n : ℕ) → Block
  -- 19 PREEMPT f and 20 RETURN f (document 02, item 11)
  preempt give_back : (facility : ℕ) → Block

-- ---- The paper's kinds that share a line

abbrev pub seize : ℕ → Block
seize f = takes (facility f)

abbrev pub release : ℕ → Block
release f = frees (facility f)

abbrev pub enter : ℕ → ℕ → Block
enter s b = takes (storage s b)

abbrev pub leave : ℕ → ℕ → Block
leave s b = frees (storage s b)

abbrev pub branch : Term → Relation → Term → ℕ → Block
branch a r b target = moves (when_true a r b) target

abbrev pub goto : ℕ → Block
goto target = moves always target

abbrev pub arrive : ℕ → Block
arrive q = counts up q

abbrev pub depart : ℕ → Block
depart q = counts down q

-- where the WEL of a server and a code stands
unfoldable pub wel_index : ℕ → Code → ℕ
wel_index v code = (v - 1) * 6 + code_index code

-- the queue of which a change counts as an arrival
unfoldable pub arrivals : Change → ℕ → ℕ
arrivals up q = q
arrivals down q = 0

-- does nothing go on past the block?
unfoldable pub unconditional : Condition → Bool
unconditional always = true
unconditional (when_true a r b) = false

-- the terms of a condition
unfoldable pub compared : Condition → List Term
compared always = []
compared (when_true a r b) = a ∷ b ∷ []

unfoldable pub facts : Block → Facts
facts (generate list p) = set_generates list (set_rank p (set_uses list no_facts))
facts (advance list) = set_uses list no_facts
facts (terminate a) = set_terminates 1 (set_leaves true no_facts)
facts (takes x) = set_server (share_server x) (set_units (share_units x) no_facts)
facts (frees x) = set_releases (share_facility x) no_facts
facts (wait_server code v c) = set_wel (suc (wel_index v code)) (set_back c no_facts)
facts (wait_terms a r b) = set_waits_while (some (when_true a r b)) (set_terms (a ∷ b ∷ []) no_facts)
facts (moves c target) = set_target target (set_leaves (unconditional c) (set_terms (compared c) no_facts))
facts (assign k a) = set_terms (a ∷ []) no_facts
facts (priority p) = no_facts
facts (split n target) = set_copies n (set_target target no_facts)
facts (counts c q) = set_queue (arrivals c q) no_facts
facts (assemble n) = set_terminates 1 (set_gathers n no_facts)
facts (preempt f) = set_server f (set_units 1 (set_preempts f no_facts))
facts (give_back f) = set_releases f no_facts

-- Document 000, section 6, "some B > 1": does the block take or free more than one unit? B is the units of an ENTER or LEAVE.
unfoldable pub above_one : Block → Bool
above_one (generate list p) = false
above_one (advance list) = false
above_one (terminate a) = false
above_one (takes x) = ltb 1 (share_units x)
above_one (frees x) = ltb 1 (share_units x)
above_one (wait_server code v c) = false
above_one (wait_terms a r b) = false
above_one (moves c target) = false
above_one (assign k a) = false
above_one (priority p) = false
above_one (split n target) = false
above_one (counts c q) = false
above_one (assemble n) = false
above_one (preempt f) = false
above_one (give_back f) = false

-- Bytes, "Model: ..": what is left of it once decoded, and the rules that it was judged by.
pub record BlockModel : Type 0 where
  pub rules : Rules
  -- 1, or 2 for a run under the 1996 rules (document 02, item 12)
  pub edition : ℕ
  pub facilities : ℕ
  pub capacities : List ℕ
  pub queues : ℕ
  pub values : List Sum
  pub lists : ℕ
  pub counter : ℕ
  pub blocks : List Block

abbrev pub block_at : BlockModel → ℕ → Block
block_at m n = nth m.blocks n (terminate 0)

-- ---- Document 02, item 7: a group is a kind 17 block and the blocks before it that its back count names

abbrev pub back_at : BlockModel → ℕ → ℕ
back_at m n = (facts (block_at m n)).back

-- is the block the first of a group?
unfoldable pub begins_group : BlockModel → ℕ → Bool
begins_group m n = ltb 0 (up_to max_back (λ c. bit (eqb (back_at m (n + c)) c)))

-- is it "the second of this group, a later one or the kind 17 block itself"?
unfoldable pub inside_group : BlockModel → ℕ → Bool
inside_group m n = ltb 0 (up_to max_back (λ c. bit (leb c (back_at m (n + c - 1)))))
