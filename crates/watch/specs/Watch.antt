-- What the WAITIFs on comparisons read, and which values name a parameter, stored behind the other numbers of the tables.
use Rattle.std.specs.Prelude.{◌+◌, ◌*◌, ◌%◌}
use Rattle.machine.specs.All.{ℕ, zero, suc, cond, List, eqb, get_or, set, replicate}
use Rattle.layout.specs.Layout as Layout
use Rattle.watch.specs.Walk.{queue_marks, server_marks, value_marks, clock_mark, own_mark, marks_size, terms_from, term_from}

module _ (tables : List ℕ) where
  -- ---- Through values

  -- value k (from 0), if it is marked: the terms of its sum. No more brackets open than it has numbers.
  unfoldable pub reach_value : (k : ℕ) → List ℕ → List ℕ
  reach_value k marks =
      cond (eqb (get_or marks (value_marks + k) 0) 0) marks
      (terms_from tables (term_from tables k Layout.value_width) 1 (get_or tables (Layout.values + Layout.value_width * k) 0)
      (Layout.values + Layout.value_width * k + 1) marks).marks

  -- the first so many values, the highest first, since they name lower ones
  unfoldable pub reach : ℕ → List ℕ → List ℕ
  reach zero marks = marks
  reach (suc k) marks = reach k (reach_value k marks)

  -- ---- The WAITIFs

  -- block b (from 0), if it is one: its two terms, one behind the kind and one behind the relation
  unfoldable pub wait_marks : (values b : ℕ) → List ℕ → List ℕ
  wait_marks values b marks =
      cond (eqb (get_or tables (Layout.block_width * b) 0) 9)
      (terms_from tables (term_from tables values Layout.block_width) 1 2 (Layout.block_width * b) marks).marks marks

  -- the first so many blocks
  unfoldable pub waits_marks : (values : ℕ) → ℕ → List ℕ → List ℕ
  waits_marks values zero marks = marks
  waits_marks values (suc b) marks = wait_marks values b (waits_marks values b marks)

  -- all that the WAITIFs read
  unfoldable pub marks_of : (blocks values : ℕ) → List ℕ
  marks_of blocks values = reach values (waits_marks values blocks (replicate marks_size 0))

  -- ---- Of a value and of a block

  -- does value k name a parameter?
  unfoldable pub own_of : (values k : ℕ) → ℕ
  own_of values k = get_or (reach values (set (replicate marks_size 0) (value_marks + k) 1)) own_mark 0

  -- the cell of the server or queue that block b (from 0) changes; its own where there is none
  unfoldable pub changed_cell : ℕ → ℕ
  changed_cell b =
      let kind : ℕ = get_or tables (Layout.block_width * b) 0 in
      let n : ℕ = get_or tables (Layout.block_width * b + 1) 0 in
      cond (eqb kind 4) (server_marks + n % 64)
      (cond (eqb kind 5) (server_marks + n % 64)
      (cond (eqb kind 6) (server_marks + n % 64)
      (cond (eqb kind 7) (server_marks + n % 64)
      (cond (eqb kind 15) (queue_marks + n % 32)
      (cond (eqb kind 16) (queue_marks + n % 32)
      (cond (eqb kind 19) (server_marks + n % 64)
      (cond (eqb kind 20) (server_marks + n % 64) b)))))))

  -- is a WAITIF asked again after block b?
  unfoldable pub asked_of : (marks : List ℕ) → ℕ → ℕ
  asked_of marks b = cond (eqb (get_or marks b 0) 0) (get_or marks (changed_cell b) 0) 1

-- ---- Stored

-- of the first so many values
unfoldable pub own_stored : (values : ℕ) → ℕ → List ℕ → List ℕ
own_stored values zero tables = tables
own_stored values (suc k) tables = let t : List ℕ = own_stored values k tables in set t (Layout.names_own + k) (own_of t values k)

-- of the first so many blocks
unfoldable pub asked_stored : (marks : List ℕ) → ℕ → List ℕ → List ℕ
asked_stored marks zero tables = tables
asked_stored marks (suc b) tables = let t : List ℕ = asked_stored marks b tables in set t (Layout.asked + b) (asked_of t marks b)

unfoldable pub with_marks : (marks : List ℕ) → (blocks : ℕ) → List ℕ → List ℕ
with_marks marks blocks tables = set (asked_stored marks blocks tables) Layout.clock_asked (get_or marks clock_mark 0)

unfoldable pub watched : (blocks values : ℕ) → List ℕ → List ℕ
watched blocks values tables = let t : List ℕ = own_stored values values tables in with_marks (marks_of t blocks values) blocks t
