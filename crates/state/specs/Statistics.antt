-- The row machine: sums over ticks and longest lengths, brought up to date before a number changes. Until then the number has been
-- what it is since the last time. Server v, from 0, is counted as v and queue q as 64 + q.
use Rattle.std.specs.Prelude.{◌+◌, ◌-◌}
use Rattle.machine.specs.All.{ℕ, min, max, Bool, cond, not, List, eqb, get_or, set}
use Rattle.layout.specs.Layout as Layout
use Rattle.state.specs.Ticks.{most_ticks, product}

-- the ticks since i was brought up to date, no more than a clock has
unfoldable pub ticks_since : List ℕ → (i clock : ℕ) → ℕ
ticks_since tally i clock = min (clock - get_or tally (Layout.seen_clock + i) 0) most_ticks

-- has the clock moved since, be it by 0 ticks?
unfoldable pub behind : List ℕ → ℕ → Bool
behind tally i = not (eqb (get_or tally (Layout.seen_moves + i) 0) (get_or tally Layout.clock_moves 0))

-- the sum at `at`, with the number at `from` for each tick since; a sum stops at the largest number of 64 bits
unfoldable pub sum_now : List ℕ → (at from i clock : ℕ) → ℕ
sum_now tally at from i clock = min (get_or tally at 0 + product (get_or tally from 0) (ticks_since tally i clock)) Layout.most64

-- the longest at `at`, with the number at `from` where the clock moved since
unfoldable pub longest_now : List ℕ → (at from i : ℕ) → ℕ
longest_now tally at from i = cond (behind tally i) (max (get_or tally at 0) (get_or tally from 0)) (get_or tally at 0)

-- i is up to date
unfoldable pub see : List ℕ → (i clock : ℕ) → List ℕ
see tally i clock = set (set tally (Layout.seen_clock + i) clock) (Layout.seen_moves + i) (get_or tally Layout.clock_moves 0)

-- ---- Servers

unfoldable pub store_server : List ℕ → (v clock : ℕ) → List ℕ
store_server tally v clock =
    see
    (set
    (set (set tally (Layout.unit_ticks + v) (sum_now tally (Layout.unit_ticks + v) (Layout.in_use + v) v clock))
    (Layout.wait_ticks + v) (sum_now tally (Layout.wait_ticks + v) (Layout.ql_length + v) v clock))
    (Layout.longest_ql + v) (longest_now tally (Layout.longest_ql + v) (Layout.ql_length + v) v))
    v clock

unfoldable pub update_server : List ℕ → (v clock : ℕ) → List ℕ
update_server tally v clock = cond (behind tally v) (store_server tally v clock) tally

-- ---- Queues

unfoldable pub store_queue : List ℕ → (q clock : ℕ) → List ℕ
store_queue tally q clock =
    see
    (set
    (set tally (Layout.content_ticks + q) (sum_now tally (Layout.content_ticks + q) (Layout.content + q) (Layout.server_count + q) clock))
    (Layout.longest_content + q) (longest_now tally (Layout.longest_content + q) (Layout.content + q) (Layout.server_count + q)))
    (Layout.server_count + q) clock

unfoldable pub update_queue : List ℕ → (q clock : ℕ) → List ℕ
update_queue tally q clock = cond (behind tally (Layout.server_count + q)) (store_queue tally q clock) tally
