-- The row machine: 5 RELEASE and 7 LEAVE.
use Rattle.std.specs.Prelude.{◌+◌, ◌-◌}
use Rattle.machine.specs.All.{ℕ, cond, List, ltb, eqb, get_or, set}
use Rattle.layout.specs.Layout as Layout
use Rattle.rows_laws.specs.All.{number_field, read, wake_first}
use Rattle.state.specs.{declared.scalars.Scalars.Scalars, All.Rows, All.rows_of}
use Rattle.moves.specs.Motion.{Moved, with_tally, go_on_lem, stopped}
use Rattle.servers_laws.specs.Units.{server_at, in_use, holder, preempted, change_use, capacity}
use Rattle.servers_laws.specs.Waking.{check_wels, shorter, leave_with, woken_rows, woken_length}

-- it enters, and so many units are in use
unfoldable pub enter_freed : List ℕ → Scalars → (v units all : ℕ) → Moved
enter_freed w x v units all = go_on_lem (check_wels w v units all) x

unfoldable pub free_one : List ℕ → List ℕ → List ℕ → Scalars → (v units : ℕ) → Rows
free_one tables w tally x v units =
    with_tally (enter_freed (wake_first w v) x v units (capacity tables v)) (shorter (change_use tally v x.clock units 0 0) v)

-- whom a LEAVE of b units wakes, where so many are in use then
unfoldable pub free_some : List ℕ → List ℕ → List ℕ → Scalars → (v units b : ℕ) → Rows
free_some tables w tally x v units b =
    let edition : ℕ = get_or tables Layout.edition 0 in
    let left : ℕ = leave_with edition (capacity tables v - units) b in
    let changed : List ℕ = change_use tally v x.clock units 0 0 in
    let n : ℕ = get_or changed (Layout.ql_length + v) 0 in
    with_tally (enter_freed (woken_rows tables w v edition left n) x v units (capacity tables v))
    (set changed (Layout.ql_length + v) (woken_length tables w v edition left n))

-- "Is f in use? 24."; document 02, item 6: "27 RELEASE by another than the holder, after 24"; item 11: "RELEASE of a
-- preempted facility" 27
unfoldable pub ask_release : (units taken who number : ℕ) → ℕ
ask_release units taken who number = cond (ltb units 1) 24 (cond (eqb taken 0) (cond (eqb who number) 0 27) 27)

unfoldable pub release_rows : List ℕ → List ℕ → List ℕ → Scalars → ℕ → Rows
release_rows tables w tally x at =
    let v : ℕ = server_at tables (at + 1) in
    let end : ℕ = ask_release (in_use tally v) (preempted tally v) (holder tally v) (read w number_field x.moving) in
    cond (eqb end 0) (free_one tables w tally x v (in_use tally v - 1)) (rows_of (stopped x end) w tally)

-- "are b units in use? 24."
unfoldable pub leave_rows : List ℕ → List ℕ → List ℕ → Scalars → ℕ → Rows
leave_rows tables w tally x at =
    let v : ℕ = server_at tables (at + 1) in
    let b : ℕ = get_or tables (at + 2) 0 in
    cond (ltb (in_use tally v) b) (rows_of (stopped x 24) w tally) (free_some tables w tally x v (in_use tally v - b) b)
