-- "What demand 3 speaks of", word by word, as one claim about the states of a whole run. Proved in ../proofs/Demand3.antt.
use Rattle.std.specs.Prelude.{◌+◌, ◌*◌, ◌-◌, ◌%◌, ◌≤◌, ◌<◌, ◌≡◌, ◌&&◌, ◌||◌, ◌∷◌, ◌++◌}
use Rattle.machine.specs.Basics.{ℕ, suc, Bool, true, false, cond, not, List, [], map, reverse, Option, none, some, ltb, leb, eqb, T, length, get_or, drop}
use Rattle.machine.specs.{Limits.max_turns, Transaction.Transaction, Transaction.Interrupted, Term.Server, Term.server_at, Facts.Facts, Facts.is_generate, State.State, State.Logged, Execute.fits, Turn.waits_on, Trace.Record, Trace.in_ranges, Run.run, Run.states, Report.places, Report.moving_one, Report.report_numbers, Outcome.Outcome}
use Rattle.machine.specs.Lists.{those, any_of, flat, nth}
use Rattle.machine.specs.Block.{Code, U, NU, E, NE, F, NF, status, Block, facts, BlockModel, block_at, back_at}
use Rattle.machine.specs.Moves.{ql_of, wel_of, gatherers_at, interrupted_at}
unfoldable pub use Rattle.machine.specs.Lists.{bit, up_to}

abbrev pub Each : {A : Type 0} → (A → Type 0) → List A → Type 0
Each P [] = Unit {0}
Each P (x ∷ l) = P x × Each P l

-- how many of a list pass a test
unfoldable pub count : {A : Type 0} → (A → Bool) → List A → ℕ
count p l = length (those p l)

-- ---- One place each

-- everybody on the machine's lists, and the moving one
unfoldable pub everyone : State → List Transaction
everyone s =
    flat s.ql ++ flat s.wel ++ s.wsl ++ s.rel ++ map (λ e. e.who) s.fel ++ moving_one s.moving
    ++ map (λ g. g.who) (flat s.gatherers) ++ map (λ i. i.who) s.interrupted

-- how often a number stands there
unfoldable pub standing : State → ℕ → ℕ
standing s n = count (λ t. eqb t.number n) (everyone s)

-- ---- Positions among records

abbrev pub no_record_lem : Logged
no_record_lem = record { entry = record { clock = 0; transaction = 0; block = 0; outcome = 0 }; priority = 0 }

-- where a transaction's next record stands among some records, or their number where it has none
unfoldable pub next_record : ℕ → List Logged → ℕ
next_record n [] = 0
next_record n (r ∷ l) = cond (eqb r.entry.transaction n) 0 (suc (next_record n l))

-- the position of the record that ends the wait begun at position i; all records' number while the wait is open
unfoldable pub wait_end : List Logged → ℕ → ℕ
wait_end records i = suc i + next_record (get_or records i no_record_lem).entry.transaction (drop (suc i) records)

-- the clock of a transaction's last entry of a block, by records that stand newest first
unfoldable pub last_entry : (number block : ℕ) → List Logged → Option ℕ
last_entry n b [] = none
last_entry n b (r ∷ l) =
    cond (eqb r.entry.outcome 0 && eqb r.entry.transaction n && eqb r.entry.block b) (some r.entry.clock) (last_entry n b l)

module _ (m : BlockModel) (tape : List (List ℕ)) where
  abbrev pub facts_at : Logged → Facts
  facts_at r = facts (block_at m r.entry.block)

  abbrev pub entered : Logged → Bool
  entered r = eqb r.entry.outcome 0

  -- ---- "Made: one for each GENERATE that gets a time at the start (of a shared list, each time goes to one), one for each
  -- record of a GENERATE whose list had a time left, n for each record of SPLIT n."

  -- how many times a list has
  abbrev pub times_of : ℕ → ℕ
  times_of list = length (nth tape list [])

  -- how many of some blocks are a GENERATE of that list
  unfoldable pub generates_of : ℕ → List Block → ℕ
  generates_of list l = count (λ b. eqb (facts b).generates list) l

  -- is the block a GENERATE of a list of which fewer times than it has were used?
  abbrev pub gets_time : Facts → (used : ℕ → ℕ) → Bool
  gets_time f used = is_generate f && ltb (used f.generates) (times_of f.generates)

  -- at the start, from some blocks on, behind the blocks in `before`
  unfoldable pub made_at_start : (before l : List Block) → ℕ
  made_at_start before [] = 0
  made_at_start before (b ∷ l) = bit (gets_time (facts b) (λ list. generates_of list before)) + made_at_start (b ∷ before) l

  -- the times of a list that were used: at the start, and by the records of GENERATE and ADVANCE that name it
  unfoldable pub used_by : List Logged → ℕ → ℕ
  used_by records list =
      generates_of list m.blocks + count (λ r. entered r && eqb (facts_at r).uses list) records

  -- made by the start and some records, newest first
  unfoldable pub made_by : List Logged → ℕ
  made_by [] = made_at_start [] m.blocks
  made_by (r ∷ l) = cond (entered r) (bit (gets_time (facts_at r) (used_by l)) + (facts_at r).copies) 0 + made_by l

  -- ---- "Ended: the records at TERMINATE. Living: the numbers 1..made without such a record."

  -- Document 02, item 8: the later ones of a family at ASSEMBLE "count as ended"; the first, of outcome 1, has not ended. At TERMINATE
  -- every record is of outcome 0.
  abbrev pub terminates : Logged → Bool
  terminates r = entered r && eqb (facts_at r).terminates 1

  unfoldable pub ended_by_lem : List Logged → ℕ
  ended_by_lem records = count terminates records

  unfoldable pub is_living : List Logged → ℕ → Bool
  is_living records n =
      leb 1 n && leb n (made_by records) && eqb (count (λ r. terminates r && eqb r.entry.transaction n) records) 0

  unfoldable pub living_count : List Logged → ℕ
  living_count records = up_to (made_by records) (λ n. bit (is_living records n))

  -- ---- "Able to go is, on a QL, one whose facility is idle or whose units, judged alone, fit the free units; on a WEL, one
  -- whose code is not true; on the WSL, one whose comparison does not hold, with its own parameters." Document 02, item 8: "A gatherer
  -- isn't a waiter able to go."

  -- on a server's QL; a SEIZE waits for the one unit of its facility, and so does a PREEMPT (document 02, item 11: it "counts as able to
  -- go only at an idle facility")
  unfoldable pub able_on_ql : State → ℕ → ℕ
  able_on_ql s v = count (fits m s.view v) (ql_of s v)

  -- Document 02, item 7: "A waiter inside a group counts as able to go when its own condition isn't true", as any other
  unfoldable pub able_on_wel : State → Code → ℕ → ℕ
  able_on_wel s code v = cond (status code (server_at s.view v)) 0 (length (wel_of s v code))

  unfoldable pub able_on_wels : State → ℕ → ℕ
  able_on_wels s v =
      able_on_wel s U v + able_on_wel s NU v + able_on_wel s E v + able_on_wel s NE v + able_on_wel s F v + able_on_wel s NF v

  unfoldable pub able_to_go : State → ℕ
  able_to_go s =
      up_to (length s.view.servers) (able_on_ql s) + up_to (length s.view.servers) (able_on_wels s)
      + count (λ t. not (waits_on m s.view t)) s.wsl

  -- ---- "A wait to seize f begins with a record of outcome 1 at a SEIZE f and ends with that transaction's next record;
  -- likewise to enter s. Its priority is the waiter's, its units are the block's."

  -- two waits for one server at equal priority and equal units
  unfoldable pub equal_waits : Logged → Logged → Bool
  equal_waits a b =
      eqb a.entry.outcome 1 && eqb b.entry.outcome 1 && not (eqb (facts_at a).server 0)
      && eqb (facts_at a).server (facts_at b).server && eqb a.priority b.priority && eqb (facts_at a).units (facts_at b).units

  -- Document 02, item 11: does a PREEMPT name the facility? "The order among equals is claimed for facilities that no PREEMPT names."
  unfoldable pub preempt_names : ℕ → Bool
  preempt_names f = any_of (λ b. eqb (facts b).preempts f) m.blocks

  -- "the one that began later has ended only if the other ended before it", of records in the order of writing
  abbrev pub InOrder : List Logged → Type 0
  InOrder records =
      (i k : ℕ) → i < k → k < length records → T (equal_waits (get_or records i no_record_lem) (get_or records k no_record_lem))
      → preempt_names (facts_at (get_or records i no_record_lem)).server ≡ false
      → wait_end records k < length records → wait_end records i < wait_end records k

  -- ---- Document 02, item 6: "A facility in use always has a living holder"

  -- is the record an entry of a SEIZE or PREEMPT of facility f? (the server that it takes is its facility)
  abbrev pub takes_it : Logged → ℕ → Bool
  takes_it r f = entered r && eqb (facts_at r).server f

  unfoldable mutual
    -- who holds facility f by some records, newest first, 0 for nobody: who took it last, or, after a RELEASE or RETURN, from whom it was
    -- taken
    pub holder_by : List Logged → ℕ → ℕ
    holder_by [] f = 0
    holder_by (r ∷ l) f = cond (takes_it r f) r.entry.transaction (cond (eqb (facts_at r).releases f) (loser_by l f) (holder_by l f))

    -- Document 02, item 11: from whom its holder took it, 0 for nobody
    pub loser_by : List Logged → ℕ → ℕ
    loser_by [] f = 0
    loser_by (r ∷ l) f = cond (takes_it r f) (holder_by l f) (cond (eqb (facts_at r).releases f) 0 (loser_by l f))

  -- did its holder take it by PREEMPT?
  unfoldable pub preempted_by : List Logged → ℕ → Bool
  preempted_by [] f = false
  preempted_by (r ∷ l) f = cond (takes_it r f) (eqb (facts_at r).preempts f) (not (eqb (facts_at r).releases f) && preempted_by l f)

  -- of facility f, which is v
  pub record Held (v : Server) (f : ℕ) (records : List Logged) : Type 0 where
    pub told : v.holder ≡ holder_by records f
    pub preempted : v.preempted ≡ preempted_by records f
    -- its one unit is in use exactly if it has a holder
    pub in_use : v.in_use ≡ bit (ltb 0 v.holder)
    -- a living one, where the rules ask 27 and 28
    pub living : m.rules.holders ≡ true → 0 < v.holder → is_living records v.holder ≡ true

  -- ---- Document 02, item 7: "whoever enters a kind 17 block entered its whole group at that clock"

  -- if a record behind others is an entry, the blocks of its group were last entered at its clock; other kinds have no group
  abbrev pub WholeGroup : (before : List Logged) → Logged → Type 0
  WholeGroup before r =
      entered r ≡ true → (i : ℕ) → 1 ≤ i → i ≤ (facts_at r).back
      → last_entry r.entry.transaction (r.entry.block - i) before ≡ some r.entry.clock

  -- of records that stand newest first
  abbrev pub Joined : List Logged → Type 0
  Joined [] = Unit {0}
  Joined (r ∷ l) = WholeGroup l r × Joined l

  -- for who stands inside the group that block k closes, its stamp tells when it "last entered the group's first block"
  abbrev pub Stamped : List Logged → Transaction → Type 0
  Stamped records t = (k : ℕ) → k - back_at m k < t.next → t.next ≤ k → last_entry t.number (k - back_at m k) records ≡ some t.stamp

  -- ---- Document 02, item 8: "Copies made by SPLIT belong to the family of the original, and so do copies of copies"

  -- the family of a number by some records, newest first: a SPLIT makes its copies after all that were made before it
  unfoldable pub family_by : List Logged → (number : ℕ) → ℕ
  family_by [] n = n
  family_by (r ∷ l) n =
      cond (entered r && ltb (made_by l) n && leb n (made_by l + (facts_at r).copies)) (family_by l r.entry.transaction) (family_by l n)

  -- how many of a family have come to a block: its records there
  unfoldable pub come_by : List Logged → (block family : ℕ) → ℕ
  come_by [] b f = 0
  come_by (r ∷ l) b f = bit (eqb r.entry.block b && eqb (family_by l r.entry.transaction) f) + come_by l b f

  -- of the gatherers at block b, those of a family: one, with as many as have come since the last n-th, or nobody where none has
  abbrev pub OneGathers : State → (block family : ℕ) → Type 0
  OneGathers s b f =
      let k : ℕ = come_by s.records b f % (facts (block_at m b)).gathers in
      map (λ g. g.come) (those (λ g. eqb g.who.family f) (gatherers_at s b)) ≡ cond (eqb k 0) [] (k ∷ [])

  -- ---- Document 02, item 11: each interrupted one belongs to one facility, which is preempted, and each facility has at most one

  -- of facility f: the one from whom its holder took it, or nobody
  abbrev pub OneInterrupted : State → (f : ℕ) → Type 0
  OneInterrupted s f =
      let n : ℕ = loser_by s.records f in map (λ i. i.who.number) (interrupted_at s f) ≡ cond (eqb n 0) [] (n ∷ [])

  pub record TakenFrom (s : State) (i : Interrupted) : Type 0 where
    pub facility : (1 ≤ i.facility) × (i.facility ≤ m.facilities)
    pub preempted : (server_at s.view i.facility).preempted ≡ true

  -- ---- The claims of one state

  pub record Keeps (s : State) : Type 0 where
    -- every living number stands exactly once, and no other stands anywhere
    pub one_place : (n : ℕ) → standing s n ≡ bit (is_living s.records n)
    pub made : s.made ≡ made_by s.records
    pub ended : s.ended ≡ ended_by_lem s.records
    pub balance : made_by s.records ≡ ended_by_lem s.records + living_count s.records
    -- the living count of the report
    pub living : length (places s) ≡ living_count s.records
    -- the clock is about to move, or the run ended dry: `end` is 0 in each state before a turn that is taken, and 1 is dry
    -- Document 02, item 12: "Zero waiters and the order among equals are claimed for edition 1."
    pub nobody-able : m.edition ≡ 1 → s.end ≤ 1 → s.moving ≡ none → s.rel ≡ [] → able_to_go s ≡ 0
    pub order : m.edition ≡ 1 → InOrder (reverse s.records)
    pub held : (f : ℕ) → 1 ≤ f → f ≤ m.facilities → Held (server_at s.view f) f s.records
    pub interrupted : (f : ℕ) → 1 ≤ f → f ≤ m.facilities → OneInterrupted s f
    pub taken-from : Each (TakenFrom s) s.interrupted
    pub joined : Joined s.records
    pub stamps : Each (Stamped s.records) (everyone s)
    pub families : Each (λ t. t.family ≡ family_by s.records t.number) (everyone s)
    -- of every ASSEMBLE
    pub gathered : (b f : ℕ) → 1 ≤ b → 0 < (facts (block_at m b)).gathers → OneGathers s b f

  -- ---- Document 02, item 2: "List the living by rising transaction number", told from the report's numbers alone

  -- where the living part of a report begins
  unfoldable pub living_at : ℕ
  living_at = 3 + 5 * (m.facilities + length m.capacities) + 3 * m.queues

  -- how often a number stands at a place
  unfoldable pub standing_at : State → (place number : ℕ) → ℕ
  standing_at s place n = count (λ p. eqb p.place place && eqb p.number n) (places s)

  -- number and place of the living one at index i
  abbrev pub listed_number : State → ℕ → ℕ
  listed_number s i = get_or (report_numbers m s) (living_at + 1 + 2 * i) 0

  abbrev pub listed_place : State → ℕ → ℕ
  listed_place s i = get_or (report_numbers m s) (living_at + 2 + 2 * i) 0

  pub record LivingListed (s : State) : Type 0 where
    pub counted : get_or (report_numbers m s) living_at 0 ≡ living_count s.records
    pub whole : length (report_numbers m s) ≡ living_at + 1 + 2 * living_count s.records
    -- the transaction numbers rise strictly, each is a living one, and each stands with its place
    pub rising : (i : ℕ) → suc i < living_count s.records → listed_number s i < listed_number s (suc i)
    pub living : (i : ℕ) → i < living_count s.records → is_living s.records (listed_number s i) ≡ true
    pub placed : (i : ℕ) → i < living_count s.records → standing_at s (listed_place s i) (listed_number s i) ≡ 1

-- ---- "It is one claim about the whole run": of the start, of what each turn left, and of the last state

abbrev pub Demand3 : BlockModel → List (List ℕ) → (budget room : ℕ) → Type 0
Demand3 m tape budget room = Each (Keeps m tape) (states m tape budget room)

-- "run for at most the stated number of turns, always to a stated end"
abbrev pub stated_end : ℕ → Bool
stated_end n = leb 1 n && leb n 4 || leb 21 n && leb n 28

pub record Bounded (budget : ℕ) (s : State) : Type 0 where
  pub within-budget : s.turns ≤ budget
  pub within-limit : s.turns ≤ max_turns
  pub stated : T (stated_end s.end)

-- a list of states ends with one, and no other one has an end
pub record Ends (s : State) (l : List State) : Type 0 where
  pub front : List State
  pub all : l ≡ front ++ (s ∷ [])
  pub no-ends : Each (λ s. s.end ≡ 0) front

-- all that is claimed of a run; its states end with the one that gives outcome, trace and report
pub record Proved (m : BlockModel) (tape : List (List ℕ)) (budget room : ℕ) : Type 0 where
  pub demand : Demand3 m tape budget room
  pub last-state : Ends (run m tape budget room) (states m tape budget room)
  pub bounds : Bounded budget (run m tape budget room)

-- the same bounds, of an outcome: a stated end exactly if nothing is refused
pub record Keeping (budget : ℕ) (o : Outcome) : Type 0 where
  pub refusals : o.refusal ≤ 10
  pub stated : o.refusal ≡ 0 → T (stated_end o.end)
  pub only_then : T (stated_end o.end) → o.refusal ≡ 0
  pub within-budget : o.turns ≤ budget
  pub within-limit : o.turns ≤ max_turns

-- a record in the reader's ranges, at a block of the model
pub record InModel (m : BlockModel) (r : Record) : Type 0 where
  pub ranges : in_ranges m.rules r ≡ true
  pub block : (1 ≤ r.block) × (r.block ≤ length m.blocks)
