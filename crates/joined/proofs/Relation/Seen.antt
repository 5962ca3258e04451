-- A state of the joined run as a part sees it, beside a state of that part alone: the relation.
--
-- It says nothing of the clock, of who moves, of statistics and of ends. Each part of it speaks of a few fields, so that a change of
-- others leaves
-- it as it is.
use Rattle.machine.specs.All.{ℕ, ◌+◌, ◌-◌, ◌≤◌, ◌≡◌, Bool, true, false, List, [], map, length, Transaction, precedes, Event, earlier, Gatherer, Interrupted, those, Server, idle_server, Queue, empty_queue, View, Code, BlockModel, wel_index, Record, State, Logged, Each}
use Rattle.machine.proofs.{Decoding.Proper.Names, Decoding.Proper.servers, Lists.Sorted.Sorted}
use Rattle.joined.specs.{Part, server_in, in_part}
use Rattle.joined.proofs as our
use our.Lists.Tables.{Rows, Matched}
use our.Lists.Ranks.{Named, rank_in, Upto}
use our.Relation.Naming.{Naming, mine, seen_as_lem, Known, event_as, gatherer_as}

module _ (p : Part) (m : BlockModel) where
  abbrev pub size : ℕ
  size = length m.blocks

  -- ---- Where the part's rows stand, there in the joined state and here in its own

  abbrev pub block_there : ℕ → ℕ
  block_there b = b + p.to_block - 1

  abbrev pub queue_there : ℕ → ℕ
  queue_there q = q + p.to_queue - 1

  abbrev pub list_there : ℕ → ℕ
  list_there l = l + p.to_list - 1

  abbrev pub server_there : ℕ → ℕ
  server_there v = server_in p v - 1

  abbrev pub here : ℕ → ℕ
  here k = k - 1

  -- a server and a code
  pub record Gate : Type 0 where
    pub server : ℕ
    pub code : Code

  abbrev pub AtServer : Gate → Type 0
  AtServer g = Names (servers m) g.server

  abbrev pub gate_there : Gate → ℕ
  gate_there g = wel_index (server_in p g.server) g.code

  abbrev pub gate_here : Gate → ℕ
  gate_here g = wel_index g.server g.code

  -- the rows of each table correspond one to one
  pub record Tables : Type 0 where
    pub blocks : Matched (Names size) block_there here
    pub queues : Matched (Names m.queues) queue_there here
    pub lists : Matched (Names m.lists) list_there here
    pub servers : Matched (Names (servers m)) server_there here
    pub gates : Matched AtServer gate_there gate_here

  -- ---- Names

  module _ (N : Naming) where
    abbrev pub alone_as : Transaction → Transaction
    alone_as = seen_as_lem p size N

    abbrev pub record_as : Record → Record
    record_as r =
        record { clock = r.clock; transaction = rank_in N.numbers r.transaction; block = r.block - p.to_block; outcome = r.outcome }

    abbrev pub interrupted_as : Interrupted → Interrupted
    interrupted_as i = record { who = alone_as i.who; facility = i.facility - p.to_facility; remaining = i.remaining }

    -- of a whole list of the part
    pub record Alike {A : Type 0} (f : A → A) (who : A → Transaction) (l l' : List A) : Type 0 where
      -- the part's records, renamed, are those of the part alone
      pub same : l' ≡ map f l
      -- and their numbers are on the roll
      pub known : Each (λ x. Known p size N (who x)) l

    -- of the part's members of a list that it shares with the other
    pub record Shown {A : Type 0} (f : A → A) (who : A → Transaction) (before : A → A → Bool) (l l' : List A) : Type 0 where
      pub part : Alike f who (those (λ x. mine p size (who x)) l) l'
      pub sorted : Sorted before l

    pub record SameServer (v v' : Server) : Type 0 where
      pub capacity : v'.capacity ≡ v.capacity
      pub in_use : v'.in_use ≡ v.in_use
      pub holder : v'.holder ≡ rank_in N.numbers v.holder
      pub preempted : v'.preempted ≡ v.preempted
      pub holder-named : Named N.numbers v.holder

    -- ---- The relation, field by field

    pub record Counted (last born last' born' : ℕ) : Type 0 where
      pub serial : last' ≡ rank_in N.serials last
      pub made : born' ≡ rank_in N.numbers born
      pub serials-upto : Upto N.serials last
      pub numbers-upto : Upto N.numbers born
      pub since : N.since ≤ born

    pub record Fixtures (w w' : View) (samples samples' : List (List ℕ)) : Type 0 where
      -- entries of a block, content of a queue, use of a server, times left of a list: row by row the same
      pub entries : Rows (Names size) block_there here (λ (x y : ℕ). y ≡ x) 0 0 w.entries w'.entries
      pub queues : Rows (Names m.queues) queue_there here (λ (x y : Queue). y.content ≡ x.content) empty_queue empty_queue w.queues
          w'.queues
      pub servers : Rows (Names (servers m)) server_there here SameServer (idle_server 0) (idle_server 0) w.servers w'.servers
      pub lists : Rows (Names m.lists) list_there here (λ (x y : List ℕ). y ≡ x) [] [] samples samples'

    pub record Lined (q w q' w' : List (List Transaction)) (g g' : List (List Gatherer)) : Type 0 where
      -- who waits at the part's servers and blocks, renamed
      pub ql : Rows (Names (servers m)) server_there here (Alike alone_as (λ t. t)) [] [] q q'
      pub wel : Rows AtServer gate_there gate_here (Alike alone_as (λ t. t)) [] [] w w'
      pub gatherers : Rows (Names size) block_there here (Alike (gatherer_as p size N) (λ x. x.who)) [] [] g g'

    -- an interrupted one is of the part exactly if its facility is
    pub record OfPart (i : Interrupted) : Type 0 where
      -- a facility's number is moved back by as many as it was moved
      pub own : mine p size i.who ≡ true → Names m.facilities (i.facility - p.to_facility)
      pub other : mine p size i.who ≡ false → (v : ℕ) → Names (servers m) v → server_in p v ≡ i.facility → ⊥

    pub record Listed (w r w' r' : List Transaction) (f f' : List Event) (l l' : List Interrupted) : Type 0 where
      pub wsl : Shown alone_as (λ t. t) precedes w w'
      pub rel : Shown alone_as (λ t. t) precedes r r'
      pub fel : Shown (event_as p size N) (λ e. e.who) earlier f f'
      -- on the one list of the interrupted, those of the part
      pub interrupted : Shown interrupted_as (λ i. i.who) (λ a b. precedes a.who b.who) l l'
      pub facilities : Each OfPart l

    pub record Told (records records' : List Logged) : Type 0 where
      pub same : map (λ r. r.entry) records' ≡ map record_as (those (λ r. in_part p size r.block) (map (λ r. r.entry) records))
      pub known : Each (λ (r : Record). N.numbers r.transaction ≡ true)
          (those (λ r. in_part p size r.block) (map (λ r. r.entry) records))

    pub record Seen (s s' : State) : Type 0 where
      pub counted : Counted s.serial s.made s'.serial s'.made
      pub fixtures : Fixtures s.view s'.view s.samples s'.samples
      pub lined : Lined s.ql s.wel s'.ql s'.wel s.gatherers s'.gatherers
      pub listed : Listed s.wsl s.rel s'.wsl s'.rel s.fel s'.fel s.interrupted s'.interrupted
      pub told : Told s.records s'.records
