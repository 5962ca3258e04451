-- When scalars, work buffer and tally stand for a state of the machine. Every block kind's law is stated over this relation.
-- Each part is said of those parts of the state that it reads, so that it is the same for states that differ elsewhere. The trace stands
-- apart (crate turn_laws, specs/Writes).
use Rattle.std.specs.Prelude.{◌+◌, ◌-◌, ◌%◌, ◌<◌, ◌≤◌, ◌≡◌, ◌&&◌}
use Rattle.machine.specs.All.{ℕ, suc, false, cond, List, [], map, Option, none, some, ltb, eqb, length, get_or, max_queues, max_lists, max_blocks, Transaction, Event, Gatherer, Interrupted, bit, nth, those, up_to, with_next, with_stamp, Server, Queue, View, idle_server, empty_queue, State, Logged, of_facility, count}
use Rattle.layout.specs.Layout as Layout
use Rattle.layout.specs.All.{TimesAt}
use Rattle.rows_laws.specs.All.{transaction_at, Shows, Loose, free, row_count, wels, wsl, rel, gatherers, interrupted}
use Rattle.state.specs.{declared.scalars.Scalars.Scalars, Statistics.behind, Statistics.sum_now, Statistics.longest_now}
use Rattle.state.specs.Bare.{Note, entered_note, waits_note, no_note, Bare}

-- What a step of the engine leaves: its scalars and the numbers of the two buffers.
pub record Rows : Type 0 where
  pub scalars : Scalars
  pub work : List ℕ
  pub tally : List ℕ

unfoldable pub rows_of : Scalars → List ℕ → List ℕ → Rows
rows_of x work tally = record { scalars = x; work = work; tally = tally }

-- a gatherer's row: how many have come stands in the place of its next block, which its list tells
abbrev pub gatherer_row : Gatherer → Transaction
gatherer_row g = with_next g.come g.who

-- the row of an interrupted one: its remaining ticks stand in the place of its stamp; which facility was taken from it, its list tells
abbrev pub interrupted_row : Interrupted → Transaction
interrupted_row i = with_stamp i.remaining i.who

-- list p of the work buffer: QL 0..63, WEL 64..447, WSL 448, REL 449, gatherers 450..705, interrupted ones 706..769
unfoldable pub lists_in : (ql wel : List (List Transaction)) (wsl rel : List Transaction) → List (List Gatherer) → List Interrupted → ℕ
    → List Transaction
lists_in ql wel waiting ready gather stopped p =
    cond (ltb p wels) (get_or ql p [])
    (cond (ltb p wsl) (get_or wel (p - wels) [])
    (cond (eqb p wsl) waiting
    (cond (eqb p rel) ready
    (cond (ltb p interrupted) (map gatherer_row (get_or gather (p - gatherers) []))
    (map interrupted_row (those (of_facility (suc (p - interrupted))) stopped))))))

abbrev pub lists_of : State → ℕ → List Transaction
lists_of s = lists_in s.ql s.wel s.wsl s.rel s.gatherers s.interrupted

-- row k is the transaction that moves, on no list; 1024 for none
abbrev pub Moving : List ℕ → ℕ → Option Transaction → Type 0
Moving work k none = k ≡ row_count
Moving work k (some t) = Loose work k × (transaction_at work k ≡ t)

-- ---- Lists

pub record Listed (work : List ℕ) (moving : ℕ) (o : Option Transaction) (lists : ℕ → List Transaction) (fel : List Event)
    (living : ℕ) : Type 0 where
  pub shows : Shows work lists fel
  pub mover : Moving work moving o
  -- a free row for each transaction that may still live
  pub spare : length (shows.rows free) + living ≡ row_count

abbrev pub Listing : List ℕ → ℕ → Option Transaction → State → Type 0
Listing work moving o s = Listed work moving o (lists_of s) s.fel (s.made - s.ended)

-- ---- Tally

-- of all servers and queues: they were brought up to date at no later clock and after no more clock moves, and at this clock where
-- the clock has not moved since. There are no more clock moves than turns.
pub record Seen (tally : List ℕ) (clock turns : ℕ) : Type 0 where
  pub moves : get_or tally Layout.clock_moves 0 ≤ turns
  pub before : (i : ℕ) → i < Layout.measured_count → get_or tally (Layout.seen_moves + i) 0 ≤ get_or tally Layout.clock_moves 0
  pub clocks : (i : ℕ) → i < Layout.measured_count → get_or tally (Layout.seen_clock + i) 0 ≤ clock
  pub current : (i : ℕ) → i < Layout.measured_count → behind tally i ≡ false → get_or tally (Layout.seen_clock + i) 0 ≡ clock

-- 1 for the number of a transaction in that residue, else 0: nobody's number is 0
unfoldable pub of_residue : (r n : ℕ) → ℕ
of_residue r n = cond (eqb n 0) 0 (bit (eqb (n % Layout.residues) r))

-- how many servers are held by a number in that residue
unfoldable pub held_in : List Server → ℕ → ℕ
held_in servers r = up_to Layout.server_count (λ v. of_residue r (nth servers v (idle_server 0)).holder)

-- of all 64 servers; a server that is not there is idle. Sums and longest are those of the tally brought up to date.
pub record Serving (tally : List ℕ) (clock : ℕ) (servers : List Server) (ql : List (List Transaction)) : Type 0 where
  pub in_use : (v : ℕ) → v < Layout.server_count → get_or tally (Layout.in_use + v) 0 ≡ (get_or servers v (idle_server 0)).in_use
  pub holders : (v : ℕ) → v < Layout.server_count → get_or tally (Layout.holder + v) 0 ≡ (get_or servers v (idle_server 0)).holder
  pub preempts : (v : ℕ) → v < Layout.server_count → get_or tally (Layout.preempted + v) 0 ≡ bit (get_or servers v (idle_server 0)).preempted
  pub held : (r : ℕ) → r < Layout.residues → get_or tally (Layout.held + r) 0 ≡ held_in servers r
  pub unit-ticks : (v : ℕ) → v < Layout.server_count
      → sum_now tally (Layout.unit_ticks + v) (Layout.in_use + v) v clock ≡ (get_or servers v (idle_server 0)).unit_ticks
  pub wait-ticks : (v : ℕ) → v < Layout.server_count
      → sum_now tally (Layout.wait_ticks + v) (Layout.ql_length + v) v clock ≡ (get_or servers v (idle_server 0)).wait_ticks
  pub longest : (v : ℕ) → v < Layout.server_count
      → longest_now tally (Layout.longest_ql + v) (Layout.ql_length + v) v ≡ (get_or servers v (idle_server 0)).longest
  pub waiting : (v : ℕ) → v < Layout.server_count → get_or tally (Layout.ql_length + v) 0 ≡ length (get_or ql v [])

pub record Queueing (tally : List ℕ) (clock : ℕ) (queues : List Queue) : Type 0 where
  pub contents : (q : ℕ) → q < max_queues → get_or tally (Layout.content + q) 0 ≡ (get_or queues q empty_queue).content
  pub content-ticks : (q : ℕ) → q < max_queues
      → sum_now tally (Layout.content_ticks + q) (Layout.content + q) (Layout.server_count + q) clock
      ≡ (get_or queues q empty_queue).content_ticks
  pub longest : (q : ℕ) → q < max_queues
      → longest_now tally (Layout.longest_content + q) (Layout.content + q) (Layout.server_count + q) ≡ (get_or queues q empty_queue).longest

pub record Sampling (tape_bytes tally : List ℕ) (samples : List (List ℕ)) : Type 0 where
  pub begins : (l : ℕ) → l < length samples → TimesAt tape_bytes (get_or tally (Layout.list_at_lem + l) 0) (get_or samples l [])
  pub left : (l : ℕ) → l < max_lists → get_or tally (Layout.list_left + l) 0 ≡ length (get_or samples l [])

-- how many records of an outcome stand at a block
unfoldable pub at_block : (outcome block : ℕ) → List Logged → ℕ
at_block outcome block l = count (λ r. eqb r.entry.outcome outcome && eqb r.entry.block block) l

pub record Tallied (tape_bytes tally : List ℕ) (view : View) (ql : List (List Transaction)) (times : List (List ℕ))
    (turns : ℕ) (records : List Logged) : Type 0 where
  pub size : length tally ≡ Layout.tally_size
  pub entries : (b : ℕ) → b < max_blocks → get_or tally (Layout.entries + b) 0 ≡ get_or view.entries b 0
  -- of the blocks from 1 on, records of outcome 1
  pub waits : (b : ℕ) → b < max_blocks → get_or tally (Layout.waits + b) 0 ≡ at_block 1 (suc b) records
  pub seen : Seen tally view.clock turns
  pub servers : Serving tally view.clock view.servers ql
  pub queues : Queueing tally view.clock view.queues
  pub samples : Sampling tape_bytes tally times

abbrev pub Tallying : List ℕ → List ℕ → State → Type 0
Tallying tape_bytes tally s = Tallied tape_bytes tally s.view s.ql s.samples s.turns s.records

-- ---- Scalars

-- the numbers that scalars and states both hold
pub record Numbers : Type 0 where
  pub clock : ℕ
  pub counter : ℕ
  pub serial : ℕ
  pub made : ℕ
  pub ended : ℕ
  pub turns : ℕ
  pub used : ℕ
  pub end : ℕ

pub record Counted (a b : Numbers) : Type 0 where
  pub clock : a.clock ≡ b.clock
  pub counter : a.counter ≡ b.counter
  pub serial : a.serial ≡ b.serial
  pub made : a.made ≡ b.made
  pub ended : a.ended ≡ b.ended
  pub turns : a.turns ≡ b.turns
  pub used : a.used ≡ b.used
  pub end : a.end ≡ b.end

abbrev pub Counting : Scalars → State → Type 0
Counting x s =
    Counted
    (record {
      clock = x.clock;
      counter = x.counter;
      serial = x.serial;
      made = x.made;
      ended = x.ended;
      turns = x.turns;
      used = x.used;
      end = x.end;
    })
    (record {
      clock = s.view.clock;
      counter = s.counter;
      serial = s.serial;
      made = s.made;
      ended = s.ended;
      turns = s.turns;
      used = s.written;
      end = s.end;
    })

-- ---- All three

-- Who moves is given apart: within a block the machine's state has nobody moving, and the transaction beside it.
pub record Stands (tape_bytes : List ℕ) (r : Rows) (o : Option Transaction) (s : State) : Type 0 where
  pub listing : Listing r.work r.scalars.moving o s
  pub tallying : Tallying tape_bytes r.tally s
  pub counting : Counting r.scalars s

-- ---- What a block leaves

-- scalars carry the note as a number: 0 entered, 1 began to wait, 2 none
unfoldable pub note_of : ℕ → Note
note_of n = cond (eqb n 0) entered_note (cond (eqb n 1) waits_note no_note)

-- the rows stand for what the block left apart from its record, and say which record it writes
pub record Done (tape_bytes : List ℕ) (r : Rows) (b : Bare) : Type 0 where
  pub stands : Stands tape_bytes r b.state.moving b.state
  pub note : note_of r.scalars.note ≡ b.note
