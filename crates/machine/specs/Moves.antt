-- Lists: how transactions get a serial, come onto a list and leave it, and what a record notes.
use Rattle.std.specs.Prelude.{◌+◌, ◌-◌, ◌&&◌, ◌∷◌}
use Rattle.machine.specs.Basics.{ℕ, zero, suc, Bool, true, false, cond, not, List, [], reverse, some, ltb, leb, eqb, length, get_or, set, take, drop}
use Rattle.machine.specs.Transaction.{Transaction, Event, Gatherer, Interrupted, precedes, earlier, newborn}
use Rattle.machine.specs.Lists.{insert, those, others, replace_first, nth, set_nth}
use Rattle.machine.specs.{Term.Server, Term.server_at, Term.queue_at, Block.Code, Block.wel_index, Trace.Record, Trace.record_bytes, State.State}
use Rattle.machine.specs.Setters.{with_next, with_serial, with_returning, with_stamp, with_use, with_content, set_entries, set_queues, set_servers, set_view, set_samples, set_ql, set_wel, set_wsl, set_rel, set_fel, set_gatherers, set_interrupted, set_moving, set_serial, set_made, set_records, set_written}

-- ---- The trace

-- Bytes, "Trace record: clock, transaction, block, outcome (0 entered, 1 began to wait)"
unfoldable pub record_of : ℕ → Transaction → State → Record
record_of outcome t s =
    record { clock = s.view.clock; transaction = t.number; block = t.next; outcome = outcome }

unfoldable pub log : ℕ → Transaction → State → State
log outcome t s =
    set_written (s.written + length (record_bytes (record_of outcome t s)))
    (set_records (record { entry = record_of outcome t s; priority = t.priority } ∷ s.records) s)

-- Blocks, "Entries of a block are its records of outcome 0"
unfoldable pub enters : Transaction → State → State
enters t s =
    log 0 t (set_view (set_entries (set_nth s.view.entries t.next (suc (nth s.view.entries t.next 0))) s.view) s)

-- ---- Going on

-- "Entering a block clears the mark." The transaction stands before its next block, still moving.
unfoldable pub move_to : ℕ → Transaction → State → State
move_to block t s = set_moving (some (with_returning false (with_next block t))) s

-- "Go on" means next block plus one, still moving.
abbrev pub go_on_lem : Transaction → State → State
go_on_lem t s = move_to (suc t.next) t s

-- ---- "Serials count 1, 2, 3.. over the whole run; "fresh" is the next one."

abbrev pub fresh : State → ℕ
fresh s = suc s.serial

unfoldable pub to_rel : Transaction → State → State
to_rel t s = set_rel (insert precedes (with_serial (fresh s) t) s.rel) (set_serial (fresh s) s)

unfoldable pub to_fel : ℕ → Transaction → State → State
to_fel time t s =
    set_fel (insert earlier (record { time = time; who = with_stamp time (with_serial (fresh s) t) }) s.fel) (set_serial (fresh s) s)

-- ---- Waiting

abbrev pub ql_of : State → ℕ → List Transaction
ql_of s v = nth s.ql v []

abbrev pub wel_of : State → ℕ → Code → List Transaction
wel_of s v code = get_or s.wel (wel_index v code) []

-- Document 02, item 12, edition 2: "placed from the back, behind the first member met of equal or higher priority"
unfoldable pub from_back : Transaction → List Transaction → List Transaction
from_back t l = reverse (insert (λ a b. leb a.priority b.priority) t (reverse l))

-- How one comes onto a QL or WEL: in order; under edition 2 "a returning transaction goes to the very front", others are placed from
-- the back (document 000, section 5).
unfoldable pub line_up : (edition : ℕ) → Transaction → List Transaction → List Transaction
line_up edition t l = cond (eqb edition 1) (insert precedes t l) (cond t.returning (t ∷ l) (from_back t l))

unfoldable pub to_ql : (edition v : ℕ) → Transaction → State → State
to_ql edition v t s = set_ql (set_nth s.ql v (line_up edition t (ql_of s v))) s

unfoldable pub to_wel : (edition v : ℕ) → Code → Transaction → State → State
to_wel edition v code t s = set_wel (set s.wel (wel_index v code) (line_up edition t (wel_of s v code))) s

unfoldable pub to_wsl : Transaction → State → State
to_wsl t s = set_wsl (insert precedes t s.wsl) s

-- "A transaction that must wait takes a fresh serial unless it is returning; a returning one keeps its serial." (departs: 000
-- puts it at the front.) Its record of outcome 1 is written with the fresh serial; "putting back writes nothing".
abbrev pub begin_wait : (Transaction → State → State) → Transaction → State → State
begin_wait put t s = put (with_serial (fresh s) t) (set_serial (fresh s) (log 1 t s))

unfoldable pub must_wait : (Transaction → State → State) → Transaction → State → State
must_wait put t s = cond t.returning (put t s) (begin_wait put t s)

-- ---- Waking: "Moving from QL, WEL or WSL to REL keeps the serial and sets returning."

unfoldable pub wake : List Transaction → List Transaction → List Transaction
wake [] rel = rel
wake (t ∷ l) rel = wake l (insert precedes (with_returning true t) rel)

-- a list, parted into those who go to REL and those who stay, both in its order
pub record Parted : Type 0 where
  pub go : List Transaction
  pub stay : List Transaction

abbrev pub nobody : Parted
nobody = record { go = []; stay = [] }

-- with one more in front
abbrev pub goes : Transaction → Parted → Parted
goes t p = record { go = t ∷ p.go; stay = p.stay }

abbrev pub stays : Transaction → Parted → Parted
stays t p = record { go = p.go; stay = t ∷ p.stay }

-- the first, and every member that passes a test
abbrev pub first_of : List Transaction → Parted
first_of l = record { go = take 1 l; stay = drop 1 l }

abbrev pub part_by : (Transaction → Bool) → List Transaction → Parted
part_by p l = record { go = those p l; stay = others p l }

unfoldable pub wake_ql : (List Transaction → Parted) → ℕ → State → State
wake_ql part v s = set_ql (set_nth s.ql v (part (ql_of s v)).stay) (set_rel (wake (part (ql_of s v)).go s.rel) s)

-- the first of a WEL
unfoldable pub wake_first_wel : ℕ → Code → State → State
wake_first_wel v code s =
    set_wel (set s.wel (wel_index v code) (drop 1 (wel_of s v code))) (set_rel (wake (take 1 (wel_of s v code)) s.rel) s)

-- every member of the WSL that passes a test
unfoldable pub wake_wsl : (Transaction → Bool) → State → State
wake_wsl p s = set_wsl (others p s.wsl) (set_rel (wake (those p s.wsl) s.rel) s)

-- ---- Families that gather (document 02, item 8)

abbrev pub gatherers_at : State → (block : ℕ) → List Gatherer
gatherers_at s b = nth s.gatherers b []

abbrev pub set_gatherers_at : (block : ℕ) → List Gatherer → State → State
set_gatherers_at b l s = set_gatherers (set_nth s.gatherers b l) s

unfoldable pub in_family : Transaction → Gatherer → Bool
in_family t g = eqb g.who.family t.family

-- who of t's family waits at t's block: one, or nobody
abbrev pub waits_for : Transaction → State → List Gatherer
waits_for t s = those (in_family t) (gatherers_at s t.next)

-- "The first of a family at the block waits there"
unfoldable pub to_gatherers : Transaction → State → State
to_gatherers t s =
    set_gatherers_at t.next
    (insert (λ a b. precedes a.who b.who) (record { who = t; come = 1 }) (gatherers_at s t.next)) s

-- a few in the place of the one who waits for t
abbrev pub set_waits_for : Transaction → List Gatherer → State → State
set_waits_for t l s = set_gatherers_at t.next (replace_first (in_family t) l (gatherers_at s t.next)) s

-- one more of the family of g, which waits for t, has come
unfoldable pub comes : Gatherer → Transaction → State → State
comes g t s = set_waits_for t (record { who = g.who; come = suc g.come } ∷ []) s

-- "the first goes to REL with a fresh serial and goes on from the next block; the count for that family begins again"
unfoldable pub released : Gatherer → Transaction → State → State
released g t s = to_rel (with_returning false (with_next (suc t.next) g.who)) (set_waits_for t [] s)

-- ---- Interrupted ones (document 02, item 11)

-- the ones from whom a facility was taken: one, or nobody
unfoldable pub of_facility : ℕ → Interrupted → Bool
of_facility f i = eqb i.facility f

abbrev pub interrupted_at : State → (f : ℕ) → List Interrupted
interrupted_at s f = those (of_facility f) s.interrupted

-- Does PREEMPT by t take facility f from the one of an event? "if f was seized by a holder of lower priority that stands on the FEL"
unfoldable pub loses_to : Transaction → Server → Event → Bool
loses_to t f e =
    ltb 0 f.in_use && not f.preempted && eqb e.who.number f.holder && ltb e.who.priority t.priority

-- who loses it: one, or nobody
abbrev pub losers_to : Transaction → (f : ℕ) → State → List Event
losers_to t f s = those (loses_to t (server_at s.view f)) s.fel

-- "That holder leaves the FEL for a list of interrupted ones, place 8, with its remaining ticks kept."
unfoldable pub interrupt : Event → Transaction → (f : ℕ) → State → State
interrupt e t f s =
    let left : ℕ = e.time - s.view.clock in
    set_interrupted
    (insert (λ a b. precedes a.who b.who) (record { who = with_stamp left e.who; facility = f; remaining = left }) s.interrupted)
    (set_fel (replace_first (loses_to t (server_at s.view f)) [] s.fel) s)

-- "gives f back to the interrupted holder, which goes to the FEL at clock + remaining with a fresh serial"
unfoldable pub resume : Interrupted → (f : ℕ) → State → State
resume i f s = to_fel (s.view.clock + i.remaining) i.who (set_interrupted (replace_first (of_facility f) [] s.interrupted) s)

-- ---- Servers and queues

-- so many units of a server are in use, who holds it, and whether by PREEMPT
unfoldable pub set_use : (v units holder : ℕ) (preempted : Bool) → State → State
set_use v units holder preempted s =
    set_view (set_servers (set_nth s.view.servers v (with_use units holder preempted (server_at s.view v))) s.view) s

-- its unit stays in use, and another holds it
abbrev pub set_holder : (f holder : ℕ) (preempted : Bool) → State → State
set_holder f holder preempted s = set_use f (server_at s.view f).in_use holder preempted s

unfoldable pub set_content : ℕ → ℕ → State → State
set_content q n s =
    set_view (set_queues (set_nth s.view.queues q (with_content n (queue_at s.view q))) s.view) s

-- ---- Making

-- the times left of a list: "Each list is used up in order, one time per use, by all blocks that name it."
abbrev pub times_left : State → ℕ → List ℕ
times_left s list = nth s.samples list []

abbrev pub use_time : ℕ → State → State
use_time list s = set_samples (set_nth s.samples list (drop 1 (times_left s list))) s

-- 1 GENERATE, "if the list has a time left, make a transaction at this block, on the FEL at clock + time, fresh serial. ..
-- A spent list makes none."
unfoldable pub arrival : List ℕ → (list priority block : ℕ) → State → State
arrival [] list priority block s = s
arrival (time ∷ left) list priority block s =
    to_fel (s.view.clock + time) (newborn (suc s.made) priority block) (set_made (suc s.made) (use_time list s))

abbrev pub copy_of : Transaction → (number target : ℕ) → Transaction
copy_of t number target =
    record { number = number; priority = t.priority; parameters = t.parameters; next = target; serial = 0; returning = false; stamp = 0; family = t.family }

-- 14 SPLIT, "n copies, same priority and parameters, on REL with fresh serials in order"
unfoldable pub copies : ℕ → ℕ → Transaction → State → State
copies zero target t s = s
copies (suc n) target t s =
    copies n target t (to_rel (copy_of t (suc s.made) target) (set_made (suc s.made) s))
