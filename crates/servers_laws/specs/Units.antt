-- The row machine: units, holders, capacities and status codes of servers, which count from 0 here.
use Rattle.std.specs.Prelude.{◌+◌, ◌-◌, ◌%◌}
use Rattle.machine.specs.All.{ℕ, min, Bool, cond, not, List, ltb, eqb, length, get_or, set}
use Rattle.layout.specs.Layout as Layout
use Rattle.state.specs.All.{update_server}

-- the server that a block names at an index of the tables
unfoldable pub server_at : List ℕ → ℕ → ℕ
server_at tables at = get_or tables at 0 % Layout.server_count

abbrev pub in_use : List ℕ → ℕ → ℕ
in_use tally v = get_or tally (Layout.in_use + v) 0

-- the number of who holds it, 0 for nobody
abbrev pub holder : List ℕ → ℕ → ℕ
holder tally v = get_or tally (Layout.holder + v) 0

-- 1 where it is held by PREEMPT, else 0
abbrev pub preempted : List ℕ → ℕ → ℕ
preempted tally v = get_or tally (Layout.preempted + v) 0

-- where facilities are counted that such a number holds
abbrev pub residue_cell : ℕ → ℕ
residue_cell n = Layout.held + n % Layout.residues

-- so many are; 0 is nobody's number
unfoldable pub set_held : List ℕ → (n count : ℕ) → List ℕ
set_held tally n count = cond (eqb n 0) tally (set tally (residue_cell n) count)

-- one fewer, and one more
unfoldable pub held_less : List ℕ → ℕ → List ℕ
held_less tally n = set_held tally n (get_or tally (residue_cell n) 0 - 1)

unfoldable pub held_more : List ℕ → ℕ → List ℕ
held_more tally n = set_held tally n (min (get_or tally (residue_cell n) 0 + 1) Layout.most64)

abbrev pub store_use : List ℕ → (v units who preempts : ℕ) → List ℕ
store_use tally v units who preempts = set (set (set tally (Layout.in_use + v) units) (Layout.holder + v) who) (Layout.preempted + v) preempts

-- nothing where the tally is too short: one test for all cells
unfoldable pub set_use : List ℕ → (v units who preempts : ℕ) → List ℕ
set_use tally v units who preempts =
    cond (ltb (length tally) Layout.tally_size) tally (store_use (held_more (held_less tally (holder tally v)) who) v units who preempts)

-- from now on: the server's statistics are brought up to date first
abbrev pub change_use : List ℕ → (v clock units who preempts : ℕ) → List ℕ
change_use tally v clock units who preempts = set_use (update_server tally v clock) v units who preempts

abbrev pub capacity : List ℕ → ℕ → ℕ
capacity tables v = get_or tables (Layout.capacities + v) 0

-- is a server in the state that a code names? Codes count from 0: U, NU, E, NE, F, NF
unfoldable pub status_of : ℕ → ℕ → ℕ → Bool
status_of code units all =
    cond (eqb code 0) (ltb 0 units)
    (cond (eqb code 1) (eqb units 0)
    (cond (eqb code 2) (eqb units 0)
    (cond (eqb code 3) (ltb 0 units)
    (cond (eqb code 4) (eqb units all)
    (not (eqb units all))))))
