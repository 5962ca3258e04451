-- Blocks: the questions inside a turn, and what each kind does once they are answered.
use Rattle.std.specs.Prelude.{◌+◌, ◌-◌, ◌&&◌, ◌||◌, ◌∷◌}
use Rattle.machine.specs.Basics.{ℕ, suc, Bool, true, false, cond, not, List, [], ltb, leb, eqb}
use Rattle.machine.specs.{Limits.max_living, State.State}
use Rattle.machine.specs.Transaction.{Transaction, Event, Gatherer, Interrupted}
use Rattle.machine.specs.Lists.{set_nth, bit, up_to, any_of}
use Rattle.machine.specs.Term.{Server, View, server_at, queue_at, free, evaluate, compare, truth}
use Rattle.machine.specs.Block.{Code, U, NU, E, NE, F, NF, status, Share, facility, storage, share_server, share_units, share_holder, Change, up, down, Block, generate, advance, terminate, takes, frees, wait_server, wait_terms, moves, assign, priority, split, counts, assemble, preempt, give_back, facts, above_one, BlockModel, block_at, begins_group}
use Rattle.machine.specs.Setters.{with_priority, with_parameters, with_next, with_returning, with_stamp, set_counter, set_ended, set_end}
use Rattle.machine.specs.Moves.{enters, move_to, go_on_lem, to_rel, to_fel, to_ql, to_wel, to_wsl, begin_wait, must_wait, Parted, nobody, goes, stays, first_of, part_by, wake_ql, wake_first_wel, set_use, set_holder, set_content, times_left, use_time, arrival, copies, waits_for, to_gatherers, comes, released, interrupted_at, losers_to, interrupt, resume}

-- ---- Questions, "Inside a turn, after the taking and before the block has any effect, "no" is the end"

-- 0 where the answer is yes
abbrev pub unless : Bool → ℕ → ℕ → ℕ
unless true n later = later
unless false n later = n

abbrev pub living : State → ℕ
living s = s.made - s.ended

-- "Is the move time at most 2,000,000,000? 22 (after 21 or 23)."
abbrev pub ask_time : BlockModel → ℕ → State → ℕ
ask_time m time s = unless (leb (s.view.clock + time) m.rules.max_clock) 22 0

-- "is a living place free for each new one? 21." A spent list makes none, and nothing is asked.
unfoldable pub ask_generate : BlockModel → List ℕ → State → ℕ
ask_generate m [] s = 0
ask_generate m (time ∷ left) s = unless (leb (living s + 1) max_living) 21 (ask_time m time s)

-- "ADVANCE: has the list a time? 23."
unfoldable pub ask_advance : BlockModel → List ℕ → State → ℕ
ask_advance m [] s = 23
ask_advance m (time ∷ left) s = ask_time m time s

-- "Has the queue content? 25."
unfoldable pub ask_content : Change → ℕ → ℕ
ask_content up n = 0
ask_content down n = unless (leb 1 n) 25 0

-- Document 02, item 6: "RELEASE by another than the holder" 27, "after 24"; LEAVE asks for none. Item 11: "RELEASE of a preempted
-- facility" 27
unfoldable pub ask_holder : BlockModel → Share → Transaction → State → ℕ
ask_holder m (facility v) t s =
    unless (not (server_at s.view v).preempted) 27 (unless (not m.rules.holders || eqb (server_at s.view v).holder t.number) 27 0)
ask_holder m (storage v b) t s = 0

-- how many facilities a transaction holds
unfoldable pub held : BlockModel → View → (number : ℕ) → ℕ
held m w n = up_to m.facilities (λ f. bit (eqb (server_at w f).holder n))

-- Document 02, item 6: "TERMINATE while holding a facility" 28, "before the counter falls"
abbrev pub ask_ends : BlockModel → Transaction → State → ℕ
ask_ends m t s = unless (not m.rules.holders || eqb (held m s.view t.number) 0) 28 0

-- Document 02, item 8: "one that holds a facility ends the run with 28", but the first of its family does not end
unfoldable pub ask_gathers : BlockModel → List Gatherer → Transaction → State → ℕ
ask_gathers m [] t s = 0
ask_gathers m (g ∷ l) t s = ask_ends m t s

-- Document 02, item 11: a RETURN "whose clock + remaining passes the clock limit" 22
unfoldable pub ask_resume : BlockModel → List Interrupted → State → ℕ
ask_resume m [] s = 0
ask_resume m (i ∷ l) s = ask_time m i.remaining s

-- "RETURN of a seized one and RETURN by another end with 27. RETURN of an idle one ends with 24", and 22 is "asked after 27"
unfoldable pub ask_gives_back : BlockModel → (f : ℕ) → Transaction → State → ℕ
ask_gives_back m f t s =
    let v : Server = server_at s.view f in
    unless (leb 1 v.in_use) 24 (unless (v.preempted && eqb v.holder t.number) 27 (ask_resume m (interrupted_at s f) s))

-- For the transaction t whose next block it is.
unfoldable pub question : BlockModel → Block → Transaction → State → ℕ
question m (generate list p) t s = ask_generate m (times_left s list) s
question m (advance list) t s = ask_advance m (times_left s list) s
question m (terminate a) t s = ask_ends m t s
question m (takes x) t s = 0
-- "Is f in use, or are b units in use? 24."
question m (frees x) t s = unless (leb (share_units x) (server_at s.view (share_server x)).in_use) 24 (ask_holder m x t s)
question m (wait_server code v c) t s = 0
question m (wait_terms a r b) t s = 0
question m (moves c target) t s = 0
question m (assign k a) t s = 0
question m (priority p) t s = 0
question m (split n target) t s = unless (leb (living s + n) max_living) 21 0
question m (counts c q) t s = ask_content c (queue_at s.view q).content
question m (assemble n) t s = ask_gathers m (waits_for t s) t s
question m (preempt f) t s = 0
question m (give_back f) t s = ask_gives_back m f t s

-- ---- The effects

-- "After blocks 4 to 7 enter, each WEL of that server whose code is not true gives its first to REL." Document 02, item 11: "the WEL check
-- follows both" PREEMPT and RETURN
unfoldable pub check_wel : ℕ → Code → State → State
check_wel v code s = cond (status code (server_at s.view v)) s (wake_first_wel v code s)

unfoldable pub check_wels : ℕ → State → State
check_wels v s = check_wel v NF (check_wel v F (check_wel v NE (check_wel v E (check_wel v NU (check_wel v U s)))))

-- the units of the SEIZE or ENTER at which a transaction waits
abbrev pub units_of_lem : BlockModel → Transaction → ℕ
units_of_lem m t = (facts (block_at m t.next)).units

-- do its units, judged alone, fit the free units of the server?
unfoldable pub fits : BlockModel → View → ℕ → Transaction → Bool
fits m w v t = leb (units_of_lem m t) (free (server_at w v))

-- and nobody holds it
abbrev pub free_units : ℕ → ℕ → State → State
free_units v b s = set_use v ((server_at s.view v).in_use - b) 0 false s

-- ---- Document 02, item 12, edition 2: "LEAVE follows document 000, section 6, cases a and b, B being its units"

-- b (i): "the first transaction that has an ENTER with B = 1"
unfoldable pub first_of_one : BlockModel → List Transaction → Parted
first_of_one m [] = nobody
first_of_one m (t ∷ l) = cond (eqb (units_of_lem m t) 1) (first_of (t ∷ l)) (stays t (first_of_one m l))

-- b (ii), "We start a search in the QL, from the front": Bₑ is the units of t. "If B = Bₑ, the same action takes place as under (i) and we
-- are finished ... If B < Bₑ, we continue to the next transaction. If B > Bₑ, we decrease B by Bₑ and move the transaction".
unfoldable pub from_front : BlockModel → (b : ℕ) → List Transaction → Parted
from_front m b [] = nobody
from_front m b (t ∷ l) =
    cond (eqb b (units_of_lem m t)) (first_of (t ∷ l))
    (cond (ltb b (units_of_lem m t)) (stays t (from_front m b l)) (goes t (from_front m (b - units_of_lem m t) l)))

-- "some B > 1 in the program" means in any ENTER or LEAVE; case a is none
unfoldable pub queue_remove : BlockModel → (b : ℕ) → List Transaction → Parted
queue_remove m b l = cond (any_of above_one m.blocks) (cond (eqb b 1) (first_of_one m l) (from_front m b l)) (first_of l)

-- whom freed units wake: 5 RELEASE, "the first of its QL goes to REL"; 7 LEAVE, "every QL member whose units, judged alone, fit
-- the free units goes to REL" (departs)
unfoldable pub part_for : BlockModel → Share → View → List Transaction → Parted
part_for m (facility v) w l = first_of l
part_for m (storage v b) w l = cond (eqb m.edition 1) (part_by (fits m w v) l) (queue_remove m b l)

unfoldable pub wake_for : BlockModel → Share → State → State
wake_for m x s = wake_ql (part_for m x s.view) (share_server x) s

-- 3 TERMINATE, "the transaction ends; the counter falls by a; at or below 0, end 2"
unfoldable pub ends_one : ℕ → State → State
ends_one a s = set_end (cond (leb s.counter a) 2 0) (set_counter (s.counter - a) (set_ended (suc s.ended) s))

-- 2 ADVANCE, "to the FEL at clock + time, fresh serial, even for time 0"; .. also add one to the next block
unfoldable pub delay : List ℕ → ℕ → Transaction → State → State
delay [] list t s = s
delay (time ∷ left) list t s =
    to_fel (s.view.clock + time) (with_returning false (with_next (suc t.next) t)) (use_time list s)

-- 15 ARRIVE, 16 DEPART, "content of q up or down by one"
unfoldable pub changed : Change → ℕ → ℕ
changed up n = n + 1
changed down n = n - 1

-- Document 02, item 8: a later one of the family of g ends; "At the n-th the first goes to REL"
unfoldable pub gathers : (n : ℕ) → Gatherer → Transaction → State → State
gathers n g t s = let e : State = set_ended (suc s.ended) s in cond (eqb (suc g.come) n) (released g t e) (comes g t e)

-- Document 02, item 11: RETURN "gives f back to the interrupted holder ..; if there is none, it acts as RELEASE"
unfoldable pub gives_back : BlockModel → List Interrupted → (f : ℕ) → State → State
gives_back m [] f s = wake_for m (facility f) (free_units f 1 s)
gives_back m (i ∷ l) f s = resume i f (set_holder f i.who.number false s)

-- Document 02, item 7: at the first block of a group it takes the clock
abbrev pub stamped : BlockModel → Transaction → State → Transaction
stamped m t s = with_stamp (cond (begins_group m t.next) s.view.clock t.stamp) t

-- What each kind does, for the transaction t whose next block it is; nobody is moving in s. It enters, with an effect on the state e in
-- which its entry counts, or it must wait on a list, or it goes back, or it begins to wait. What becomes of each is said by who asks:
-- `effect` below writes the record of an entry and of a wait at once; going back writes none.
-- "terms are read before the block's own entry counts, with the transaction's own parameters".
module _ {A : Type 0} (enter : (State → State) → A) (wait : (Transaction → State → State) → A) (back : (State → State) → A) (begin : (Transaction → State → State) → A) where
  -- 4 SEIZE, "idle, it enters and f is in use; else it waits on the QL", 6 ENTER, "enters if b units are free, else waits"
  -- Document 02, item 6: "the number of its holder, written at SEIZE"
  abbrev pub taking_units : BlockModel → Share → (preempts : Bool) → Transaction → State → A
  taking_units m x preempts t s =
      let v : ℕ = share_server x in
      cond (leb (share_units x) (free (server_at s.view v)))
      (enter (λ e. go_on_lem t (check_wels v (set_use v ((server_at s.view v).in_use + share_units x) (share_holder x t.number) preempts e))))
      (wait (to_ql m.edition v))

  -- Document 02, item 8: "The first of a family at the block waits there", "Its record has outcome 1" (nobody comes here returning); "Each
  -- later one of that family writes outcome 0 and ends"
  abbrev pub gathering : List Gatherer → (n : ℕ) → Transaction → A
  gathering [] n t = begin to_gatherers
  gathering (g ∷ l) n t = enter (λ e. gathers n g t e)

  -- Document 02, item 11: "PREEMPT enters if f is idle. It also enters if f was seized by a holder of lower priority that stands on the
  -- FEL", who loses it. "Otherwise PREEMPT waits on the QL. Whoever enters it is f's holder until RETURN."
  abbrev pub preempting : List Event → BlockModel → (f : ℕ) → Transaction → State → A
  preempting [] m f t s = taking_units m (facility f) true t s
  preempting (e ∷ l) m f t s = enter (λ s'. go_on_lem t (check_wels f (set_holder f t.number true (interrupt e t f s'))))

  abbrev pub doing : BlockModel → Block → Transaction → State → A
  doing m (generate list p) t s = enter (λ e. go_on_lem t (arrival (times_left s list) list p t.next e))
  doing m (advance list) t s = enter (λ e. delay (times_left s list) list t e)
  doing m (terminate a) t s = enter (λ e. ends_one a e)
  doing m (takes x) t s = taking_units m x false t s
  -- 5 RELEASE, "f idle; ..", and 7 LEAVE, "frees b; .."
  doing m (frees x) t s =
      enter (λ e. go_on_lem t (check_wels (share_server x) (wake_for m x (free_units (share_server x) (share_units x) e))))
  -- "waits on the WEL while the code is true; else the first of that WEL goes to REL, go on"
  -- Document 02, item 7: "One that finds the condition not true, but last entered the group's first block at an earlier clock, moves the
  -- WEL's first to REL and goes back to that block, still moving. This writes no record and clears its returning mark. Otherwise it does
  -- as kind 8"
  doing m (wait_server code v c) t s =
      cond (status code (server_at s.view v)) (wait (to_wel m.edition v code))
      (cond (ltb 0 c && ltb t.stamp s.view.clock) (back (λ e. move_to (t.next - c) t (wake_first_wel v code e)))
      (enter (λ e. go_on_lem (stamped m t s) (wake_first_wel v code e))))
  -- "waits on the WSL while true; else go on"
  doing m (wait_terms a r b) t s =
      cond (compare m.values s.view t.parameters a r b) (wait to_wsl) (enter (λ e. go_on_lem t e))
  -- 10 IF, "true, the next block is the target, still moving; else go on". 11 GOTO, "likewise, always"
  doing m (moves c target) t s =
      enter (λ e. move_to (cond (truth m.values s.view t.parameters c) target (suc t.next)) t e)
  doing m (assign k a) t s =
      enter (λ e. go_on_lem (with_parameters (set_nth t.parameters k (evaluate m.values s.view t.parameters a)) t) e)
  doing m (priority p) t s = enter (λ e. to_rel (with_priority p (with_returning false (with_next (suc t.next) t))) e)
  doing m (split n target) t s = enter (λ e. go_on_lem t (copies n target t e))
  doing m (counts c q) t s = enter (λ e. go_on_lem t (set_content q (changed c (queue_at s.view q).content) e))
  doing m (assemble n) t s = gathering (waits_for t s) n t
  doing m (preempt f) t s = preempting (losers_to t f s) m f t s
  doing m (give_back f) t s = enter (λ e. go_on_lem t (check_wels f (gives_back m (interrupted_at s f) f e)))

unfoldable pub take_units : BlockModel → Share → (preempts : Bool) → Transaction → State → State
take_units m x preempts t s = taking_units (λ f. f (enters t s)) (λ put. must_wait put t s) (λ f. f s) (λ put. begin_wait put t s) m x preempts t s

unfoldable pub effect : BlockModel → Block → Transaction → State → State
effect m b t s = doing (λ f. f (enters t s)) (λ put. must_wait put t s) (λ f. f s) (λ put. begin_wait put t s) m b t s
