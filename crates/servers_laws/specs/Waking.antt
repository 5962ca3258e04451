-- The row machine: whom a change of a server's units wakes.
use Rattle.std.specs.Prelude.{◌+◌, ◌*◌, ◌-◌, ◌%◌}
use Rattle.machine.specs.All.{ℕ, zero, suc, Bool, true, false, cond, List, ltb, leb, eqb, get_or, set, max_blocks}
use Rattle.layout.specs.Layout as Layout
use Rattle.rows_laws.specs.All.{next_field, wels, rel, head, tail, links, row_count, load, read, first, outranks, wake_first, wake_walk, wake_whole, pass_rows, pass_cell}
use Rattle.servers_laws.specs.Units.{status_of, server_at}

-- ---- WELs

-- the WEL of a server and a code gives its first, if the code is not true
unfoldable pub check_wel : List ℕ → (v code units all : ℕ) → List ℕ
check_wel w v code units all = cond (status_of code units all) w (wake_first w (wels + (v * Layout.code_count + code)))

unfoldable pub check_first : List ℕ → (v units all : ℕ) → List ℕ
check_first w v units all = check_wel (check_wel (check_wel w v 0 units all) v 1 units all) v 2 units all

unfoldable pub check_last : List ℕ → (v units all : ℕ) → List ℕ
check_last w v units all = check_wel (check_wel (check_wel w v 3 units all) v 4 units all) v 5 units all

unfoldable pub check_wels : List ℕ → (v units all : ℕ) → List ℕ
check_wels w v units all = check_last (check_first w v units all) v units all

-- ---- QLs

-- the QL is shorter by one, if it has one
unfoldable pub shorter : List ℕ → ℕ → List ℕ
shorter tally v = set tally (Layout.ql_length + v) (get_or tally (Layout.ql_length + v) 0 - 1)

-- the units that the block at an index of the tables takes: one for a SEIZE or PREEMPT, 0 for a block that takes none
unfoldable pub units_at : List ℕ → ℕ → ℕ
units_at tables at =
    cond (eqb (get_or tables at 0) 4) 1 (cond (eqb (get_or tables at 0) 6) (get_or tables (at + 2) 0) (cond (eqb (get_or tables at 0) 19) 1 0))

-- the units that row k waits for
unfoldable pub member_units : List ℕ → List ℕ → ℕ → ℕ
member_units tables w k = units_at tables (Layout.block_width * ((read w next_field k - 1) % max_blocks))

-- do they fit what is left?
abbrev pub member_fits : List ℕ → (left : ℕ) → List ℕ → ℕ → Bool
member_fits tables left w k = leb (member_units tables w k) left

-- Document 02, item 12: under edition 1 the free units, judged alone for each; under edition 2 the units of the LEAVE, off which who goes
-- takes its own
unfoldable pub leave_with : (edition free b : ℕ) → ℕ
leave_with edition free b = cond (eqb edition 1) free b

unfoldable pub taken_off : (left units : ℕ) → ℕ
taken_off left units = cond (ltb left units) left (left - units)

unfoldable pub left_behind : (edition left units : ℕ) → ℕ
left_behind edition left units = cond (eqb edition 1) left (taken_off left units)

abbrev pub member_left : List ℕ → (edition left : ℕ) → List ℕ → ℕ → ℕ
member_left tables edition left w k = left_behind edition left (member_units tables w k)

-- a QL has at most so many
abbrev pub steps : ℕ
steps = row_count

abbrev pub one_unless : Bool → ℕ
one_unless fits = cond fits 0 1

-- how many of list p from cell c on stay, where those that pass a test leave (`wake_walk` of crate rows)
unfoldable pub wake_stays : (test : ℕ → List ℕ → ℕ → Bool) (next : ℕ → List ℕ → ℕ → ℕ) → ℕ → (left : ℕ) → List ℕ → ℕ → ℕ → ℕ
wake_stays test next zero left w p c = 0
wake_stays test next (suc n) left w p c =
    cond (ltb (load w c) row_count)
    (one_unless (test left w (load w c))
    + wake_stays test next n (next left w (load w c)) (pass_rows (test left w (load w c)) w p c) p (pass_cell (test left w (load w c)) w c)) 0

-- ---- A whole QL

-- does the block at an index of the tables take more units of server v than are left?
unfoldable pub too_many_lem : List ℕ → (at v left : ℕ) → Bool
too_many_lem tables at v left =
    cond (eqb (get_or tables at 0) 6) (cond (eqb (server_at tables (at + 1)) v) (ltb left (get_or tables (at + 2) 0)) false) false

-- does no block from block b on, of n, take more? Behind the last block the tables have 0
unfoldable pub none_too_many : ℕ → List ℕ → (b v left : ℕ) → Bool
none_too_many zero tables b v left = true
none_too_many (suc n) tables b v left =
    cond (eqb (get_or tables (Layout.block_width * b) 0) 0) true
    (cond (too_many_lem tables (Layout.block_width * b) v left) false (none_too_many n tables (b + 1) v left))

-- does the last of list p stand before the first of REL, if there is one?
unfoldable pub ahead_of : List ℕ → ℕ → Bool
ahead_of w p =
    cond (ltb (first w rel) row_count)
    (cond (ltb (load w (tail p) - links) row_count) (outranks w (load w (tail p) - links) (first w rel)) false) true

-- from so many on, a whole list is faster than one by one
abbrev pub many : ℕ
many = 64

-- do all n of a QL go to REL at once, under edition 1, with so many units left?
unfoldable pub at_once_lem : (tables w : List ℕ) (v edition left n : ℕ) → Bool
at_once_lem tables w v edition left n =
    cond (ltb n many) false
    (cond (eqb edition 1) (cond (ltb (first w v) row_count) (cond (ahead_of w v) (none_too_many max_blocks tables 0 v left) false) false) false)

-- the rows when a LEAVE has woken those of a QL of n whose units fit what is left, and how many stay
unfoldable pub woken_rows : (tables w : List ℕ) (v edition left n : ℕ) → List ℕ
woken_rows tables w v edition left n =
    cond (at_once_lem tables w v edition left n) (wake_whole w v n)
    (wake_walk (member_fits tables) (member_left tables edition) steps left w v (head v))

unfoldable pub woken_length : (tables w : List ℕ) (v edition left n : ℕ) → ℕ
woken_length tables w v edition left n =
    cond (at_once_lem tables w v edition left n) 0
    (wake_stays (member_fits tables) (member_left tables edition) steps left w v (head v))
