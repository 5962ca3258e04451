-- The row machine: 8 WAITIF code, server, and 17 code, server, back count.
use Rattle.std.specs.Prelude.{◌+◌, ◌*◌, ◌%◌, ◌&&◌}
use Rattle.machine.specs.All.{ℕ, zero, suc, Bool, false, cond, List, ltb, eqb, get_or, max_back}
use Rattle.layout.specs.All.{code_count, edition}
use Rattle.rows_laws.specs.All.{wels, time_of, set_time, wake_first}
use Rattle.state.specs.declared.scalars.Scalars.{Scalars}
use Rattle.moves.specs.Motion.{Moved, go_on_lem, go_back, wait_on}
use Rattle.servers_laws.specs.Units.{server_at, in_use, capacity, status_of}

-- the back count of the block at a place, 0 for kind 8
unfoldable pub back_of : List ℕ → ℕ → ℕ
back_of l at = cond (eqb (get_or l at 0) 17) (get_or l (at + 3) 0) 0

-- From a place on, c blocks behind another: waits of kind 8, at most so many blocks, and then one of kind 17 that counts back to it.
unfoldable pub begins_from : List ℕ → (at c left : ℕ) → Bool
begins_from l at c zero = false
begins_from l at c (suc n) =
    cond (eqb (get_or l at 0) 17) (eqb (get_or l (at + 3) 0) c) (cond (eqb (get_or l at 0) 8) (begins_from l (at + 8) (suc c) n) false)

-- it last entered the first block of its group at an earlier clock
unfoldable pub is_late : List ℕ → Scalars → ℕ → Bool
is_late w x c = ltb 0 c && ltb (time_of w x.moving) x.clock

-- the first of list p goes to REL, and it goes back by c blocks
unfoldable pub back_from : List ℕ → Scalars → (p c : ℕ) → Moved
back_from w x p c = go_back (wake_first w p) x c

-- it takes the clock as its stamp
unfoldable pub stamp_on : List ℕ → Scalars → Moved
stamp_on w x = go_on_lem (set_time w x.moving x.clock) x

-- it enters, and the first of list p goes to REL
unfoldable pub pass_on : List ℕ → Scalars → ℕ → Bool → Moved
pass_on w x p begins = cond begins (stamp_on (wake_first w p) x) (go_on_lem (wake_first w p) x)

unfoldable pub pass_or_back : List ℕ → List ℕ → Scalars → (at p : ℕ) → Moved
pass_or_back tables w x at p =
    cond (is_late w x (back_of tables at)) (back_from w x p (back_of tables at)) (pass_on w x p (begins_from tables (at + 8) 1 max_back))

unfoldable pub wait_while : List ℕ → List ℕ → Scalars → (at p : ℕ) → Bool → Moved
wait_while tables w x at p holds = cond holds (wait_on w x p (get_or tables edition 0)) (pass_or_back tables w x at p)

unfoldable pub wait_server_rows : List ℕ → List ℕ → List ℕ → Scalars → ℕ → Moved
wait_server_rows tables w tally x at =
    let code : ℕ = get_or tables (at + 1) 0 % code_count in
    let v : ℕ = server_at tables (at + 2) in
    wait_while tables w x at (wels + (v * code_count + code)) (status_of code (in_use tally v) (capacity tables v))
