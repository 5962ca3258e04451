-- The rules one by one, by computing: a list move, a question or one block, each so small that a wrong rule shows where it is wrong.
use Rattle.machine.specs.Basics.{ℕ, ◌≡◌, refl, true, false, List, [], ◌∷◌, ◌++◌, map, some, eqb, drop, length}
use Rattle.machine.specs.Limits.{max_clock, max_transaction, max_blocks, record_room}
use Rattle.machine.specs.{Rules.document02, Term.server_at, Trace.record_bytes, State.State, State.Logged, Lists.flat, Lists.bit, Run.idle, Run.run, Report.moving_one, Report.report_numbers, Bundle.everything}
use Rattle.machine.specs.Transaction.{Transaction, Event, newborn, precedes}
use Rattle.machine.specs.Setters.{with_serial, with_returning, with_stamp, set_clock, set_view, set_wsl, set_rel, set_fel, set_interrupted, set_moving, set_serial, set_made}
use Rattle.machine.specs.Block.{U, NU, facility, storage, generate, terminate, seize, release, enter, wait_server, split, assemble, preempt, give_back, BlockModel, begins_group}
use Rattle.machine.specs.Moves.{move_to, to_ql, to_wel, to_wsl, must_wait, wake_wsl, copies, loses_to, set_use, set_gatherers_at}
use Rattle.machine.specs.Execute.{question, part_for, effect}
use Rattle.machine.specs.Turn.{next_events}
use Rattle.machine.specs.Claims.{terminates, preempt_names, family_by, living_at}

-- ---- What the examples are about

-- facilities 1 and 2, a storage of 3 units as server 3; blocks 1 and 2 are a group
abbrev plant : BlockModel
plant =
    record {
      rules = document02;
      edition = 1;
      facilities = 2;
      capacities = 3 ∷ [];
      queues = 0;
      values = [];
      lists = 1;
      counter = 9;
      blocks =
          wait_server U 1 0 ∷ wait_server U 2 1 ∷ enter 3 1 ∷ enter 3 2 ∷ seize 1 ∷ assemble 2 ∷ split 2 1 ∷ preempt 1 ∷ give_back 1
          ∷ terminate 1
          ∷ generate 1 0 ∷ terminate 1 ∷ [];
    }

abbrev tape : List (List ℕ)
tape = (2 ∷ []) ∷ []

abbrev quiet : State
quiet = idle plant tape

abbrev at : (clock : ℕ) → State → State
at clock s = set_view (set_clock clock s.view) s

-- of priority 0; its serial is its number
abbrev one : (number block : ℕ) → Transaction
one number block = with_serial number (newborn number 0 block)

abbrev urgent : (number block : ℕ) → Transaction
urgent number block = with_serial number (newborn number 1 block)

abbrev numbers : List Transaction → List ℕ
numbers l = map (λ t. t.number) l

-- units in use, holder, and whether by PREEMPT
abbrev use_of : ℕ → State → List ℕ
use_of v s = (server_at s.view v).in_use ∷ (server_at s.view v).holder ∷ bit (server_at s.view v).preempted ∷ []

abbrev outcomes : State → List ℕ
outcomes s = map (λ r. r.entry.outcome) s.records

-- ---- Lists

-- priority, high first, then serial, low first
pub ordered :
    bit (precedes (one 5 1) (one 9 1)) ∷ bit (precedes (one 9 1) (one 5 1)) ∷ bit (precedes (urgent 9 1) (one 5 1)) ∷ []
    ≡ 1 ∷ 0 ∷ 1 ∷ []
unfolding everything
ordered = refl

-- entering a block clears the mark
pub mark_cleared : map (λ t. bit t.returning) (moving_one (move_to 3 (with_returning true (one 1 2)) quiet).moving) ≡ 0 ∷ []
unfolding everything
mark_cleared = refl

-- the serial of who waits and the last one given: a returner keeps its own, a newcomer takes a fresh one
abbrev waited : Transaction → List ℕ
waited t = let s : State = must_wait to_wsl t (set_serial 9 quiet) in map (λ x. x.serial) s.wsl ++ s.serial ∷ []

pub put_back : waited (with_returning true (one 5 1)) ∷ waited (one 5 1) ∷ [] ≡ (5 ∷ 9 ∷ []) ∷ (10 ∷ 10 ∷ []) ∷ []
unfolding everything
put_back = refl

-- ---- Waking

abbrev nine : List Transaction
nine = one 1 5 ∷ one 2 5 ∷ one 3 5 ∷ one 4 5 ∷ one 5 5 ∷ one 6 5 ∷ one 7 5 ∷ one 8 5 ∷ one 9 5 ∷ []

-- RELEASE: the first of the QL goes, the others stay
pub first-woken :
    numbers (part_for plant (facility 1) quiet.view nine).go ∷ numbers (part_for plant (facility 1) quiet.view nine).stay ∷ []
    ≡ (1 ∷ []) ∷ (2 ∷ 3 ∷ 4 ∷ 5 ∷ 6 ∷ 7 ∷ 8 ∷ 9 ∷ []) ∷ []
unfolding everything
first-woken = refl

-- LEAVE, 2 of 3 units free: whoever fits alone goes, for 2 units or for 1
pub fitting-woken : numbers (part_for plant (storage 3 1) (set_use 3 1 0 false quiet).view (one 1 4 ∷ one 2 3 ∷ [])).go ≡ 1 ∷ 2 ∷ []
unfolding everything
fitting-woken = refl

-- the WS scheme: who passes the test leaves the WSL for REL
pub wsl-woken :
    let s : State = wake_wsl (λ t. eqb t.number 2) (set_wsl (one 1 1 ∷ one 2 1 ∷ one 3 1 ∷ []) quiet) in
    numbers s.wsl ∷ numbers s.rel ∷ [] ≡ (1 ∷ 3 ∷ []) ∷ (2 ∷ []) ∷ []
unfolding everything
wsl-woken = refl

-- SEIZE ends the wait of one who waits while the facility is not in use
pub seize_checks : numbers (effect plant (seize 1) (one 3 5) (to_wel 1 1 NU (one 4 1) quiet)).rel ≡ 4 ∷ []
unfolding everything
seize_checks = refl

-- a passing WAITIF wakes the next of its WEL
pub pass-wakes : numbers (effect plant (wait_server U 1 0) (one 3 1) (to_wel 1 1 U (one 4 1) quiet)).rel ≡ 4 ∷ []
unfolding everything
pass-wakes = refl

-- ---- The clock

pub clock-moved : (next_events (record { time = 7; who = one 1 3 } ∷ []) quiet).view.clock ≡ 7
unfolding everything
clock-moved = refl

-- ---- Facilities

-- SEIZE writes the holder, RELEASE leaves none
pub seize-holds : use_of 1 (effect plant (seize 1) (one 3 5) quiet) ≡ 1 ∷ 3 ∷ 0 ∷ []
unfolding everything
seize-holds = refl

pub release-frees : use_of 1 (effect plant (release 1) (one 3 5) (set_use 1 1 3 false quiet)) ≡ 0 ∷ 0 ∷ 0 ∷ []
unfolding everything
release-frees = refl

-- RELEASE by 3 of an idle facility, of its own, of one that 2 holds, of its own by PREEMPT
pub release-asks :
    map (λ s. question plant (release 1) (one 3 5) s)
    (quiet ∷ set_use 1 1 3 false quiet ∷ set_use 1 1 2 false quiet ∷ set_use 1 1 3 true quiet ∷ [])
    ≡ 24 ∷ 0 ∷ 27 ∷ 27 ∷ []
unfolding everything
release-asks = refl

-- ---- Making and ending

-- SPLIT 2 with 1,022 and with 1,023 living
pub split-asks : map (λ n. question plant (split 2 1) (one 3 7) (set_made n quiet)) (1022 ∷ 1023 ∷ []) ≡ 0 ∷ 21 ∷ []
unfolding everything
split-asks = refl

-- a copy has the next number and its original's family
pub copied :
    let s : State = copies 1 1 (one 3 7) (set_made 3 quiet) in numbers s.rel ∷ map (λ t. t.family) s.rel ∷ [] ≡ (4 ∷ []) ∷ (3 ∷ []) ∷ []
unfolding everything
copied = refl

-- whoever ends stands nowhere, of any priority
pub ends_nowhere : let s : State = effect plant (terminate 1) (newborn 3 127 10) quiet in s.ended ∷ length s.rel ∷ [] ≡ 1 ∷ 0 ∷ []
unfolding everything
ends_nowhere = refl

-- ---- Joined waits (document 02, item 7)

-- block 1 alone begins a group
pub group-begins : map (λ n. bit (begins_group plant n)) (1 ∷ 2 ∷ 3 ∷ []) ≡ 1 ∷ 0 ∷ 0 ∷ []
unfolding everything
group-begins = refl

-- at clock 5 a returner at block 2, whose condition is not true, with its clock at the group's first block; one waits on that WEL
abbrev joined_wait : (stamp : ℕ) → State
joined_wait stamp = effect plant (wait_server U 2 1) (with_returning true (with_stamp stamp (one 3 2))) (at 5 (to_wel 1 2 U (one 4 2) quiet))

abbrev mover : State → List ℕ
mover s = let l : List Transaction = moving_one s.moving in map (λ t. t.next) l ++ map (λ t. bit t.returning) l ++ outcomes s

-- of an earlier clock: it goes back without a mark and a record; of this clock: it enters
pub goes_back : mover (joined_wait 2) ≡ 1 ∷ 0 ∷ []
unfolding everything
goes_back = refl

pub same-clock-enters : mover (joined_wait 5) ≡ 3 ∷ 0 ∷ 0 ∷ []
unfolding everything
same-clock-enters = refl

pub back-wakes : numbers (joined_wait 2).rel ≡ 4 ∷ []
unfolding everything
back-wakes = refl

-- ---- Families (document 02, item 8)

abbrev gatherers_of : State → List ℕ
gatherers_of s = map (λ g. g.who.number) (flat s.gatherers) ++ map (λ g. g.come) (flat s.gatherers)

-- the first waits, with a record of outcome 1, and counts
pub first-gathers :
    let s : State = effect plant (assemble 2) (one 3 6) quiet in outcomes s ∷ gatherers_of s ∷ [] ≡ (1 ∷ []) ∷ (3 ∷ 1 ∷ []) ∷ []
unfolding everything
first-gathers = refl

-- 3 waits at block 6 for one more of its family
abbrev one_gathers : State
one_gathers = set_gatherers_at 6 (record { who = one 3 6; come = 1 } ∷ []) quiet

abbrev copy_of3 : Transaction
copy_of3 = record { number = 4; priority = 0; parameters = []; next = 6; serial = 4; returning = false; stamp = 0; family = 3 }

-- at the second the first goes on from the next block, and nobody is left
pub second-gathers :
    let s : State = effect plant (assemble 2) copy_of3 one_gathers in numbers s.rel ∷ map (λ t. t.next) s.rel ∷ gatherers_of s ∷ []
    ≡ (3 ∷ []) ∷ (7 ∷ []) ∷ [] ∷ []
unfolding everything
second-gathers = refl

-- ASSEMBLE by a holder, by SEIZE and by PREEMPT: the first of its family does not end, a later one is stopped
pub gathers-asks :
    question plant (assemble 2) (one 4 6) (set_use 1 1 4 false quiet)
    ∷ question plant (assemble 2) copy_of3 (set_use 1 1 4 false one_gathers)
    ∷ question plant (assemble 2) copy_of3 (set_use 1 1 4 true one_gathers)
    ∷ question plant (assemble 2) copy_of3 one_gathers
    ∷ []
    ≡ 0 ∷ 28 ∷ 28 ∷ 0 ∷ []
unfolding everything
gathers-asks = refl

abbrev entry : (transaction block outcome : ℕ) → Logged
entry transaction block outcome =
    record { entry = record { clock = 2; transaction = transaction; block = block; outcome = outcome }; priority = 0 }

-- by the records: a wait at ASSEMBLE is no end, an entry is one
pub ended_by : bit (terminates plant tape (entry 3 6 1)) ∷ bit (terminates plant tape (entry 4 6 0)) ∷ [] ≡ 0 ∷ 1 ∷ []
unfolding everything
ended_by = refl

-- 1 makes 2 and 3, and 2 makes 4 and 5: all are of the family of 1
pub family-by : map (λ n. family_by plant tape (entry 2 7 0 ∷ entry 1 7 0 ∷ []) n) (1 ∷ 3 ∷ 5 ∷ []) ≡ 1 ∷ 1 ∷ 1 ∷ []
unfolding everything
family-by = refl

-- ---- PREEMPT and RETURN (document 02, item 11)

-- 2 seized facility 1 and moves at clock 10
abbrev later : Event
later = record { time = 10; who = one 2 3 }

abbrev loses : Transaction → State → ℕ
loses t s = bit (loses_to t (server_at s.view 1) later)

-- to a higher priority; not to an equal one; not a preempted facility, another's or an idle one
pub losers :
    loses (urgent 3 8) (set_use 1 1 2 false quiet)
    ∷ loses (one 3 8) (set_use 1 1 2 false quiet)
    ∷ loses (urgent 3 8) (set_use 1 1 2 true quiet)
    ∷ loses (urgent 3 8) (set_use 1 1 4 false quiet)
    ∷ loses (urgent 3 8) quiet
    ∷ []
    ≡ 1 ∷ 0 ∷ 0 ∷ 0 ∷ 0 ∷ []
unfolding everything
losers = refl

-- at clock 3 one of higher priority takes it over
abbrev taken_over : State
taken_over = effect plant (preempt 1) (urgent 3 8) (at 3 (set_use 1 1 2 false (set_fel (later ∷ []) quiet)))

pub preempted_use : use_of 1 taken_over ≡ 1 ∷ 3 ∷ 1 ∷ []
unfolding everything
preempted_use = refl

pub leaves-fel : length taken_over.fel ≡ 0
unfolding everything
leaves-fel = refl

pub remaining-kept : map (λ i. i.who.number ∷ i.facility ∷ i.remaining ∷ []) taken_over.interrupted ≡ (2 ∷ 1 ∷ 7 ∷ []) ∷ []
unfolding everything
remaining-kept = refl

-- 3 has preempted facility 1, 2 is interrupted with 7 ticks left, and 4 waits on the QL
abbrev interrupting : State
interrupting = to_ql 1 1 (one 4 5) (set_use 1 1 3 true (set_interrupted (record { who = one 2 3; facility = 1; remaining = 7 } ∷ []) quiet))

-- at clock 8 it is given back: 2 holds it and moves at 15, and nobody is woken
pub given_back :
    let s : State = effect plant (give_back 1) (urgent 3 9) (at 8 interrupting) in
    use_of 1 s ∷ map (λ e. e.who.number) s.fel ∷ map (λ e. e.time) s.fel ∷ numbers s.rel ∷ numbers (flat s.ql) ∷ []
    ≡ (1 ∷ 2 ∷ 0 ∷ []) ∷ (2 ∷ []) ∷ (15 ∷ []) ∷ [] ∷ (4 ∷ []) ∷ []
unfolding everything
given_back = refl

-- RETURN of an idle facility, of a seized one by its holder; by the one who preempted, at the last clock behind which 7 ticks fit; a tick
-- later by that one and by another
pub return_asks :
    question plant (give_back 1) (one 3 9) quiet
    ∷ question plant (give_back 1) (one 3 9) (set_use 1 1 3 false quiet)
    ∷ question plant (give_back 1) (one 3 9) (at 31999999993 interrupting)
    ∷ question plant (give_back 1) (one 3 9) (at 31999999994 interrupting)
    ∷ question plant (give_back 1) (one 2 9) (at 31999999994 interrupting)
    ∷ []
    ≡ 24 ∷ 27 ∷ 0 ∷ 22 ∷ 27 ∷ []
unfolding everything
return_asks = refl

-- a PREEMPT names facility 1
pub preempt-names : map (λ f. bit (preempt_names plant tape f)) (1 ∷ 2 ∷ []) ≡ 1 ∷ 0 ∷ []
unfolding everything
preempt-names = refl

-- ---- The trace

-- the longest record takes the room that is asked for before each turn
pub largest_record :
    length (record_bytes (record { clock = max_clock; transaction = max_transaction; block = max_blocks; outcome = 1 })) ≡ record_room
unfolding everything
largest_record = refl

-- ---- Runs that are cut

-- one transaction at clock 1 and one at clock 2, which end at once
abbrev passing : BlockModel
passing =
    record {
      rules = document02;
      edition = 1;
      facilities = 0;
      capacities = [];
      queues = 0;
      values = [];
      lists = 1;
      counter = 9;
      blocks = generate 1 0 ∷ terminate 0 ∷ [];
    }

-- the end, the turns and the records of a run with a budget and a room
abbrev cut : (budget room : ℕ) → List ℕ
cut budget room = let s : State = run passing ((1 ∷ 1 ∷ []) ∷ []) budget room in s.end ∷ s.turns ∷ length s.records ∷ []

-- by its budget, by its room, and not at all: a run that ended 3 or 4 is not the longer one, and less room gives fewer turns (Prefix)
pub cut-runs : cut 2 100 ∷ cut 100 15 ∷ cut 100 100 ∷ [] ≡ (3 ∷ 2 ∷ 2 ∷ []) ∷ (4 ∷ 1 ∷ 1 ∷ []) ∷ (1 ∷ 4 ∷ 4 ∷ []) ∷ []
unfolding everything
cut-runs = refl

-- ---- The report (document 02, item 2)

-- one in each place, the last places with the lowest numbers: 9 on a QL, 8 on a WEL, 7 on the WSL, 6 on the FEL, 5 on REL, 4 moving,
-- 3 gathering, 2 interrupted
abbrev everywhere : State
everywhere =
    to_ql 1 3 (one 9 4) (to_wel 1 2 U (one 8 2) (set_wsl (one 7 1 ∷ []) (set_fel (record { time = 9; who = one 6 1 } ∷ [])
    (set_rel (one 5 1 ∷ []) (set_moving (some (one 4 1))
    (set_interrupted (record { who = one 2 3; facility = 1; remaining = 7 } ∷ []) one_gathers))))))

-- the living part: how many, and each number with its place
pub living-listed : drop (living_at plant tape) (report_numbers plant everywhere)
    ≡ 8 ∷ 2 ∷ 8 ∷ 3 ∷ 7 ∷ 4 ∷ 6 ∷ 5 ∷ 5 ∷ 6 ∷ 4 ∷ 7 ∷ 3 ∷ 8 ∷ 2 ∷ 9 ∷ 1 ∷ []
unfolding everything
living-listed = refl
