-- The numbers of one server and of one queue, from tables and tally. Servers, queues and blocks are indices from 0.
use Rattle.std.specs.Prelude.{◌+◌, ◌*◌, ◌∷◌, ◌++◌}
use Rattle.machine.specs.All.{ℕ, zero, suc, min, Bool, false, true, cond, List, [], eqb, get_or}
use Rattle.layout.specs.Layout as Layout
use Rattle.state.specs.All.{sum_now, longest_now}

-- ---- Records at the blocks that name something

-- block b is of one of three kinds, and its first operand is this one
unfoldable pub names : List ℕ → (first second third index b : ℕ) → Bool
names tables first second third index b =
    cond (eqb (get_or tables (Layout.block_width * b + 1) 0) index)
    (cond (eqb (get_or tables (Layout.block_width * b) 0) first) true
    (cond (eqb (get_or tables (Layout.block_width * b) 0) second) true (eqb (get_or tables (Layout.block_width * b) 0) third)))
    false

-- the count of block b at an offset of the tally, where it names the index
unfoldable pub share : (tables tally : List ℕ) → (first second third index base b : ℕ) → ℕ
share tables tally first second third index base b = cond (names tables first second third index b) (get_or tally (base + b) 0) 0

-- of the first n blocks; the sum stops at the largest number
unfoldable pub total : (tables tally : List ℕ) → (first second third index base n : ℕ) → ℕ
total tables tally first second third index base zero = 0
total tables tally first second third index base (suc n) =
    min (total tables tally first second third index base n + share tables tally first second third index base n) Layout.most64

-- ---- One server, one queue, their statistics brought up to date

-- SEIZE is kind 4, ENTER kind 6, PREEMPT kind 19
unfoldable pub server_row : (tables tally : List ℕ) → (clock blocks v : ℕ) → List ℕ
server_row tables tally clock blocks v =
    total tables tally 4 6 19 v Layout.entries blocks
    ∷ sum_now tally (Layout.unit_ticks + v) (Layout.in_use + v) v clock
    ∷ total tables tally 4 6 19 v Layout.waits blocks
    ∷ sum_now tally (Layout.wait_ticks + v) (Layout.ql_length + v) v clock
    ∷ longest_now tally (Layout.longest_ql + v) (Layout.ql_length + v) v
    ∷ []

-- ARRIVE is kind 15
unfoldable pub queue_row : (tables tally : List ℕ) → (clock blocks q : ℕ) → List ℕ
queue_row tables tally clock blocks q =
    total tables tally 15 15 15 q Layout.entries blocks
    ∷ sum_now tally (Layout.content_ticks + q) (Layout.content + q) (Layout.server_count + q) clock
    ∷ longest_now tally (Layout.longest_content + q) (Layout.content + q) (Layout.server_count + q)
    ∷ []

-- f 0 ++ .. ++ f (n - 1)
unfoldable pub rows_to : ℕ → (ℕ → List ℕ) → List ℕ
rows_to zero f = []
rows_to (suc n) f = rows_to n f ++ f n
