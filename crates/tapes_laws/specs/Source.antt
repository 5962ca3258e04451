-- Document 02, item 4: where the times of a list come from, and what they are, in whole numbers. A time is counted in 64ths,
-- u in 65,536ths.
use Rattle.std.specs.Prelude.{◌-◌, ◌/◌, ◌∷◌}
use Rattle.machine.specs.All.{ℕ, zero, suc, cond, List, [], ltb}
use Rattle.floats.specs.Limits.{time_parts}
use Rattle.floats.specs.Line.{line_over, line_under, spread_over, spread_under}
use Rattle.streams.specs.Stream.{next}
use Rattle.tapes_laws.specs.Limits.{states_per_part}
pub use Rattle.tapes_laws.specs.declared.Point.{Point}

-- "a fixed time, a mean with a half-width, or a curve through points", of which it has a first one
pub data Source : Type 0 where
  fixed : ℕ → Source
  spread : (mean half : ℕ) → Source
  curve : Point → List Point → Source

-- ---- A draw

-- "the new state r gives u = (r - 1) divided by 32,768, whole part, over 65,536"
unfoldable pub draw_of : ℕ → ℕ
draw_of r = (r - 1) / states_per_part

-- the points before and behind v, where p stands before the others
pub record Between : Type 0 where
  pub from : Point
  pub to : Point

unfoldable pub around : Point → List Point → ℕ → Between
around p [] v = record { from = p; to = p }
around p (q ∷ l) v = cond (ltb v q.u) (record { from = p; to = q }) (around q l v)

-- "The time written is the whole part": of the exact line through both points
unfoldable pub line_time : Between → ℕ → ℕ
line_time b v = line_over b.from.u b.from.time b.to.u b.to.time v / line_under b.from.u b.to.u

-- "A fixed time draws nothing, the others draw once for each time. A draw steps the stream"
unfoldable pub after : Source → ℕ → ℕ
after (fixed t) state = state
after (spread mean half) state = next state
after (curve p l) state = next state

-- the time written, from the state before
unfoldable pub time_of : Source → ℕ → ℕ
time_of (fixed t) state = t / time_parts
time_of (spread mean half) state = spread_over mean half (draw_of (next state)) / spread_under
time_of (curve p l) state = line_time (around p l (draw_of (next state))) (draw_of (next state))

-- ---- A list's times, and the state behind them

unfoldable pub times_of : Source → ℕ → ℕ → List ℕ
times_of s zero state = []
times_of s (suc n) state = time_of s state ∷ times_of s n (after s state)

unfoldable pub state_after : Source → ℕ → ℕ → ℕ
state_after s zero state = state
state_after s (suc n) state = state_after s n (after s state)
