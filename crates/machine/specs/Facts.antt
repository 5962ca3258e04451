-- What counts, statistics, questions and lists ask of a block, whatever else it does: 0, false and none where there is none.
use Rattle.machine.specs.Basics.{ℕ, Bool, false, not, List, [], Option, none, eqb}
use Rattle.machine.specs.Term.{Term, Condition}

pub record Facts : Type 0 where
  -- the list and the priority of a GENERATE
  pub generates : ℕ
  pub rank : ℕ
  -- the list that a GENERATE or ADVANCE uses a time of
  pub uses : ℕ
  -- 1 where whoever enters ends: a TERMINATE or an ASSEMBLE
  pub terminates : ℕ
  -- the copies of a SPLIT
  pub copies : ℕ
  -- how many an ASSEMBLE gathers
  pub gathers : ℕ
  -- the server that a SEIZE, an ENTER or a PREEMPT takes, and its units, one for a facility
  pub server : ℕ
  pub units : ℕ
  -- the facility of a RELEASE or a RETURN
  pub releases : ℕ
  -- the facility of a PREEMPT
  pub preempts : ℕ
  -- the queue of an ARRIVE
  pub queue : ℕ
  -- the target of an IF, a GOTO or a SPLIT
  pub target : ℕ
  -- a TERMINATE or a GOTO: nothing goes on past it
  pub leaves : Bool
  -- one more than the place of the WEL on which a WAITIF of a code lets wait
  pub wel : ℕ
  -- the back count of a kind 17
  pub back : ℕ
  -- while what a WAITIF of terms lets wait
  pub waits_while : Option Condition
  -- the terms that it reads
  pub terms : List Term

abbrev pub is_generate : Facts → Bool
is_generate f = not (eqb f.generates 0)

-- of a block that does none of this
abbrev pub no_facts : Facts
no_facts = record { generates = 0; rank = 0; uses = 0; terminates = 0; copies = 0; gathers = 0; server = 0; units = 0; releases = 0; preempts = 0; queue = 0; target = 0; leaves = false; wel = 0; back = 0; waits_while = none; terms = [] }

-- ---- Setters

abbrev pub set_generates : ℕ → Facts → Facts
set_generates x f = record { generates = x; rank = f.rank; uses = f.uses; terminates = f.terminates; copies = f.copies; gathers = f.gathers; server = f.server; units = f.units; releases = f.releases; preempts = f.preempts; queue = f.queue; target = f.target; leaves = f.leaves; wel = f.wel; back = f.back; waits_while = f.waits_while; terms = f.terms }

abbrev pub set_rank : ℕ → Facts → Facts
set_rank x f = record { generates = f.generates; rank = x; uses = f.uses; terminates = f.terminates; copies = f.copies; gathers = f.gathers; server = f.server; units = f.units; releases = f.releases; preempts = f.preempts; queue = f.queue; target = f.target; leaves = f.leaves; wel = f.wel; back = f.back; waits_while = f.waits_while; terms = f.terms }

abbrev pub set_uses : ℕ → Facts → Facts
set_uses x f = record { generates = f.generates; rank = f.rank; uses = x; terminates = f.terminates; copies = f.copies; gathers = f.gathers; server = f.server; units = f.units; releases = f.releases; preempts = f.preempts; queue = f.queue; target = f.target; leaves = f.leaves; wel = f.wel; back = f.back; waits_while = f.waits_while; terms = f.terms }

abbrev pub set_terminates : ℕ → Facts → Facts
set_terminates x f = record { generates = f.generates; rank = f.rank; uses = f.uses; terminates = x; copies = f.copies; gathers = f.gathers; server = f.server; units = f.units; releases = f.releases; preempts = f.preempts; queue = f.queue; target = f.target; leaves = f.leaves; wel = f.wel; back = f.back; waits_while = f.waits_while; terms = f.terms }

abbrev pub set_copies : ℕ → Facts → Facts
set_copies x f = record { generates = f.generates; rank = f.rank; uses = f.uses; terminates = f.terminates; copies = x; gathers = f.gathers; server = f.server; units = f.units; releases = f.releases; preempts = f.preempts; queue = f.queue; target = f.target; leaves = f.leaves; wel = f.wel; back = f.back; waits_while = f.waits_while; terms = f.terms }

abbrev pub set_gathers : ℕ → Facts → Facts
set_gathers x f = record { generates = f.generates; rank = f.rank; uses = f.uses; terminates = f.terminates; copies = f.copies; gathers = x; server = f.server; units = f.units; releases = f.releases; preempts = f.preempts; queue = f.queue; target = f.target; leaves = f.leaves; wel = f.wel; back = f.back; waits_while = f.waits_while; terms = f.terms }

abbrev pub set_server : ℕ → Facts → Facts
set_server x f = record { generates = f.generates; rank = f.rank; uses = f.uses; terminates = f.terminates; copies = f.copies; gathers = f.gathers; server = x; units = f.units; releases = f.releases; preempts = f.preempts; queue = f.queue; target = f.target; leaves = f.leaves; wel = f.wel; back = f.back; waits_while = f.waits_while; terms = f.terms }

abbrev pub set_units : ℕ → Facts → Facts
set_units x f = record { generates = f.generates; rank = f.rank; uses = f.uses; terminates = f.terminates; copies = f.copies; gathers = f.gathers; server = f.server; units = x; releases = f.releases; preempts = f.preempts; queue = f.queue; target = f.target; leaves = f.leaves; wel = f.wel; back = f.back; waits_while = f.waits_while; terms = f.terms }

abbrev pub set_releases : ℕ → Facts → Facts
set_releases x f = record { generates = f.generates; rank = f.rank; uses = f.uses; terminates = f.terminates; copies = f.copies; gathers = f.gathers; server = f.server; units = f.units; releases = x; preempts = f.preempts; queue = f.queue; target = f.target; leaves = f.leaves; wel = f.wel; back = f.back; waits_while = f.waits_while; terms = f.terms }

abbrev pub set_preempts : ℕ → Facts → Facts
set_preempts x f = record { generates = f.generates; rank = f.rank; uses = f.uses; terminates = f.terminates; copies = f.copies; gathers = f.gathers; server = f.server; units = f.units; releases = f.releases; preempts = x; queue = f.queue; target = f.target; leaves = f.leaves; wel = f.wel; back = f.back; waits_while = f.waits_while; terms = f.terms }

abbrev pub set_queue : ℕ → Facts → Facts
set_queue x f = record { generates = f.generates; rank = f.rank; uses = f.uses; terminates = f.terminates; copies = f.copies; gathers = f.gathers; server = f.server; units = f.units; releases = f.releases; preempts = f.preempts; queue = x; target = f.target; leaves = f.leaves; wel = f.wel; back = f.back; waits_while = f.waits_while; terms = f.terms }

abbrev pub set_target : ℕ → Facts → Facts
set_target x f = record { generates = f.generates; rank = f.rank; uses = f.uses; terminates = f.terminates; copies = f.copies; gathers = f.gathers; server = f.server; units = f.units; releases = f.releases; preempts = f.preempts; queue = f.queue; target = x; leaves = f.leaves; wel = f.wel; back = f.back; waits_while = f.waits_while; terms = f.terms }

abbrev pub set_leaves : Bool → Facts → Facts
set_leaves x f = record { generates = f.generates; rank = f.rank; uses = f.uses; terminates = f.terminates; copies = f.copies; gathers = f.gathers; server = f.server; units = f.units; releases = f.releases; preempts = f.preempts; queue = f.queue; target = f.target; leaves = x; wel = f.wel; back = f.back; waits_while = f.waits_while; terms = f.terms }

abbrev pub set_wel : ℕ → Facts → Facts
set_wel x f = record { generates = f.generates; rank = f.rank; uses = f.uses; terminates = f.terminates; copies = f.copies; gathers = f.gathers; server = f.server; units = f.units; releases = f.releases; preempts = f.preempts; queue = f.queue; target = f.target; leaves = f.leaves; wel = x; back = f.back; waits_while = f.waits_while; terms = f.terms }

abbrev pub set_back : ℕ → Facts → Facts
set_back x f = record { generates = f.generates; rank = f.rank; uses = f.uses; terminates = f.terminates; copies = f.copies; gathers = f.gathers; server = f.server; units = f.units; releases = f.releases; preempts = f.preempts; queue = f.queue; target = f.target; leaves = f.leaves; wel = f.wel; back = x; waits_while = f.waits_while; terms = f.terms }

abbrev pub set_waits_while : Option Condition → Facts → Facts
set_waits_while x f = record { generates = f.generates; rank = f.rank; uses = f.uses; terminates = f.terminates; copies = f.copies; gathers = f.gathers; server = f.server; units = f.units; releases = f.releases; preempts = f.preempts; queue = f.queue; target = f.target; leaves = f.leaves; wel = f.wel; back = f.back; waits_while = x; terms = f.terms }

abbrev pub set_terms : List Term → Facts → Facts
set_terms x f = record { generates = f.generates; rank = f.rank; uses = f.uses; terminates = f.terminates; copies = f.copies; gathers = f.gathers; server = f.server; units = f.units; releases = f.releases; preempts = f.preempts; queue = f.queue; target = f.target; leaves = f.leaves; wel = f.wel; back = f.back; waits_while = f.waits_while; terms = x }
