-- The row machine: the turn of one that comes back and waits again, as all do that come with it: to a WAITIF whose comparison names no
-- parameter, or to an ENTER.
use Rattle.std.specs.Prelude.{◌+◌, ◌*◌, ◌-◌, ◌%◌, ◌<◌, ◌≡◌}
use Rattle.machine.specs.All.{ℕ, zero, suc, Bool, true, false, cond, not, min, List, ltb, eqb, get_or, set, max_blocks}
use Rattle.layout.specs.Layout as Layout
use Rattle.rows_laws.specs.All.{standing_field, next_field, serial_field, rel, wsl, head, tail, link, links, row_count, load, store, read, outranks, first, end_at, take_first, put, line_up}
use Rattle.state.specs.All.{behind, update_server}
use Rattle.servers_laws.specs.{Units.server_at, Units.in_use, Units.capacity, Taking.longer}
use Rattle.values_queues_laws.specs.Waits.{held_by_all}

-- the block to which the first of REL comes back, 0 for none
unfoldable pub back_to : List ℕ → ℕ
back_to w =
    cond (ltb (first w rel) row_count)
    (cond (eqb (read w standing_field (first w rel) % 2) 1) (read w next_field (first w rel)) 0)
    0

-- where a block stands in the tables
abbrev pub place_in : ℕ → ℕ
place_in block = Layout.block_width * (block - 1)

-- a block of that kind; nobody reads what a turn at it changes
unfoldable pub quiet : (tables : List ℕ) (kind block : ℕ) → Bool
quiet tables kind block =
    cond (eqb block 0) false
    (cond (ltb (block - 1) max_blocks)
    (cond (eqb (get_or tables (place_in block) 0) kind) (eqb (get_or tables (Layout.asked + (block - 1)) 0) 0) false)
    false)

-- ---- WAITIF

-- its comparison names no parameter and holds
unfoldable pub all_wait : (tables : List ℕ) (values : ℕ) (tally : List ℕ) (clock block : ℕ) → Bool
all_wait tables values tally clock block = cond (quiet tables 9 block) (held_by_all tables values tally clock (place_in block)) false

-- the first of REL goes back to the WSL
unfoldable pub stayed : List ℕ → List ℕ
stayed w = cond (ltb (first w rel) row_count) (put (take_first w rel) wsl (first w rel)) w

-- ---- ENTER

abbrev pub server_of : List ℕ → ℕ → ℕ
server_of tables block = server_at tables (place_in block + 1)

-- fewer units are free than it takes
unfoldable pub short : (tables tally : List ℕ) (block : ℕ) → Bool
short tables tally block =
    ltb (capacity tables (server_of tables block) - in_use tally (server_of tables block)) (get_or tables (place_in block + 2) 0)

-- the QL of its server is longer by one
unfoldable pub lengthened : (tables tally : List ℕ) (clock block : ℕ) → List ℕ
lengthened tables tally clock block = longer (update_server tally (server_of tables block) clock) (server_of tables block)

-- the first of REL goes back to it
unfoldable pub lined : (tables w : List ℕ) (block : ℕ) → List ℕ
lined tables w block =
    cond (ltb (first w rel) row_count) (line_up (get_or tables Layout.edition 0) (take_first w rel) (server_of tables block) (first w rel)) w

-- who comes to it waits, and that the QL grows changes no statistics
unfoldable pub crowded : (tables tally : List ℕ) (block : ℕ) → Bool
crowded tables tally block = cond (behind tally (server_of tables block)) false (short tables tally block)

-- n go back to it, one after the other
unfoldable pub lined_times : (tables : List ℕ) (block n : ℕ) → List ℕ → List ℕ
lined_times tables block zero w = w
lined_times tables block (suc n) w = lined tables (lined_times tables block n w) block

-- each of them comes back to that block
pub record Lines (tables : List ℕ) (block : ℕ) (w : List ℕ) (n : ℕ) (w' : List ℕ) : Type 0 where
  pub rows : w' ≡ lined_times tables block n w
  pub back : (i : ℕ) → i < n → back_to (lined_times tables block i w) ≡ block

-- the QL is longer by n
unfoldable pub lengthened_by : (tables tally : List ℕ) (block n : ℕ) → List ℕ
lengthened_by tables tally block n =
    set tally (Layout.ql_length + server_of tables block) (min (get_or tally (Layout.ql_length + server_of tables block) 0 + n) Layout.most64)

-- is cell c the last of list v, behind which row k may come?
unfoldable pub ends_at : List ℕ → (v c k : ℕ) → Bool
ends_at w v c k =
    cond (eqb c (head v)) true
    (cond (ltb c links) false
    (cond (ltb (c - links) row_count) (cond (eqb (c - links) k) false (not (outranks w k (c - links)))) false))

-- does row n come back to that block too, behind one of this standing and serial?
unfoldable pub comes_with : List ℕ → (n block standing serial : ℕ) → Bool
comes_with w n block standing serial =
    cond (ltb n row_count)
    (cond (eqb (read w next_field n) block) (cond (eqb (read w standing_field n) standing) (ltb serial (read w serial_field n)) false) false)
    false

-- for whatever tables, where list v is the QL of the ENTER at a block under edition 1
abbrev pub WhereLine : (block v : ℕ) → (List ℕ → Type 0) → Type 0
WhereLine block v P = (tables : List ℕ) → server_of tables block ≡ v → get_or tables Layout.edition 0 ≡ 1 → P tables

-- list v ends with row l and m, which is no row, and REL begins with what stood behind l
unfoldable pub tied : List ℕ → (v l m : ℕ) → List ℕ
tied w v l m = end_at (store (store (store w (head rel) (load w (link l))) (link l) m) (tail v) (link l)) rel (load w (link l)) (head rel)
