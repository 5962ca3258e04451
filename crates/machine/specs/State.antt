-- The machine's state: what a turn gets from the turn before it.
use Rattle.machine.specs.{Basics.ℕ, Basics.List, Basics.Option, Term.View, Trace.Record}
use Rattle.machine.specs.Transaction.{Transaction, Event, Gatherer, Interrupted}

-- A record of the run, and the priority that the transaction had: the order of waits speaks of it (Claims.antt).
pub record Logged : Type 0 where
  pub entry : Record
  pub priority : ℕ

pub record State : Type 0 where
  -- clock, entries of each block, queues and servers
  pub view : View
  -- what TERMINATE lets fall
  pub counter : ℕ
  -- the times left of each sample list
  pub samples : List (List ℕ)
  -- "QL: one queue list per server"
  pub ql : List (List Transaction)
  -- "WEL: one per server and status code": six places a server, those that its codes do not use stay empty
  pub wel : List (List Transaction)
  -- "WSL: one, for waits on a comparison."
  pub wsl : List Transaction
  -- "REL: ready now."
  pub rel : List Transaction
  -- "FEL: later events"
  pub fel : List Event
  -- document 02, item 8: "a list of its own per block"
  pub gatherers : List (List Gatherer)
  -- document 02, item 11: "a list of interrupted ones"
  pub interrupted : List Interrupted
  pub moving : Option Transaction
  -- "Serials count 1, 2, 3.. over the whole run": the last one given
  pub serial : ℕ
  pub made : ℕ
  pub ended : ℕ
  pub turns : ℕ
  -- the records so far, newest first, and how many bytes they take
  pub records : List Logged
  pub written : ℕ
  -- the number of the end, 0 while there is none
  pub end : ℕ
