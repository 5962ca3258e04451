-- The row machine: 4 SEIZE and 6 ENTER.
use Rattle.std.specs.Prelude.{◌+◌, ◌-◌}
use Rattle.machine.specs.All.{ℕ, min, cond, List, leb, get_or, set}
use Rattle.layout.specs.Layout as Layout
use Rattle.rows_laws.specs.All.{number_field, read, keep_holder}
use Rattle.state.specs.{declared.scalars.Scalars.Scalars, All.update_server, All.Rows}
use Rattle.moves.specs.Motion.{with_tally, go_on_lem, wait_on}
use Rattle.servers_laws.specs.Units.{server_at, in_use, change_use, capacity}
use Rattle.servers_laws.specs.Waking.{check_wels}

-- it enters; so many units are in use from now on, who holds the server, with its row k, and whether by PREEMPT
unfoldable pub hold_units : List ℕ → List ℕ → Scalars → (v units who k preempts all : ℕ) → Rows
hold_units w tally x v units who k preempts all =
    with_tally (go_on_lem (check_wels (keep_holder w v k) v units all) x) (change_use tally v x.clock units who preempts)

-- the QL is longer by one
unfoldable pub longer : List ℕ → ℕ → List ℕ
longer tally v = set tally (Layout.ql_length + v) (min (get_or tally (Layout.ql_length + v) 0 + 1) Layout.most64)

unfoldable pub queue_up : List ℕ → List ℕ → Scalars → (v edition : ℕ) → Rows
queue_up w tally x v edition = with_tally (wait_on w x v edition) (longer (update_server tally v x.clock) v)

unfoldable pub take_units : List ℕ → List ℕ → List ℕ → Scalars → (v b who preempts : ℕ) → Rows
take_units tables w tally x v b who preempts =
    cond (leb b (capacity tables v - in_use tally v))
    (hold_units w tally x v (in_use tally v + b) who x.moving preempts (capacity tables v))
    (queue_up w tally x v (get_or tables Layout.edition 0))

-- document 02, item 6: "the number of its holder, written at SEIZE"
unfoldable pub seize_rows : List ℕ → List ℕ → List ℕ → Scalars → ℕ → Rows
seize_rows tables w tally x at = take_units tables w tally x (server_at tables (at + 1)) 1 (read w number_field x.moving) 0

unfoldable pub enter_rows : List ℕ → List ℕ → List ℕ → Scalars → ℕ → Rows
enter_rows tables w tally x at = take_units tables w tally x (server_at tables (at + 1)) (get_or tables (at + 2) 0) 0 0
