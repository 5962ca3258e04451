-- What a call gives: for each list four numbers, and doubles. Kind 0 is a fixed time, 1 a spread, 2 a curve; then the count of
-- times, the index of the first double, and the number of points, which is 0 but for a curve. A fixed time has one double, a
-- spread mean and half, a curve u and time of each point. A double past the end counts as no number.
use Rattle.machine.specs.All.{ℕ, zero, suc, Bool, cond, List, [], ltb, leb, eqb, length, get_or}
use Rattle.std.specs.Prelude.{Option, None as none, Some as some}
use Rattle.std.specs.Prelude.{Float, ◌+◌, ◌*◌, ◌-◌, ◌/◌, ◌%◌, ◌&&◌, ◌∷◌}
use Rattle.std.specs.Float.{nan}
use Rattle.floats.specs.Limits.{time_parts, max_time_parts, max_mean_parts, draw_parts}
use Rattle.floats.specs.Value.{parts_of}
use Rattle.floats.specs.{declared.Scale.Scale, declared.Scale.TheVariants.Time, declared.Scale.TheVariants.Draw}
use Rattle.tapes_laws.specs.Limits.{most_lists, most_times, fewest_points, most_points, numbers_per_list}
use Rattle.tapes_laws.specs.Options.{◌>>=◌, ◌>>◌, ask}
use Rattle.tapes_laws.specs.Source.{Point, Source, fixed, spread, curve}

-- ---- Doubles

-- "Times, means and halves are multiples of 1/64 from 0 to 1,000,000"
unfoldable pub time_at : List Float → ℕ → Option ℕ
time_at numbers at = parts_of time_parts max_time_parts (get_or numbers at nan)

-- "u .. from 0 to 1 in 65,536ths"
unfoldable pub u_at : List Float → ℕ → Option ℕ
u_at numbers at = parts_of draw_parts draw_parts (get_or numbers at nan)

-- a double on a scale
abbrev pub counted_at : Scale → List Float → ℕ → Option ℕ
counted_at Time numbers at = time_at numbers at
counted_at Draw numbers at = u_at numbers at

-- ---- Distributions

unfoldable pub fixed_at : List Float → ℕ → Option Source
fixed_at numbers first = do
  time ← time_at numbers first
  some (fixed time)

-- "a spread has half at most mean and mean at most 500,000"
unfoldable pub spread_at : List Float → ℕ → Option Source
spread_at numbers first = do
  mean ← time_at numbers first
  half ← time_at numbers (first + 1)
  ask (leb half mean && leb mean max_mean_parts)
  some (spread mean half)

unfoldable pub point_at : List Float → ℕ → Option Point
point_at numbers at = do
  u ← u_at numbers at
  time ← time_at numbers (at + 1)
  some (record { u = u; time = time })

-- "u rising strictly .., times never falling"
unfoldable pub follows : Point → Point → Bool
follows p q = ltb p.u q.u && leb p.time q.time

-- that many points behind p; with none left, p has to be at 1
unfoldable pub points_behind : List Float → ℕ → ℕ → Point → Option (List Point)
points_behind numbers zero at p = do
  ask (eqb p.u draw_parts)
  some []
points_behind numbers (suc left) at p = do
  q ← point_at numbers at
  ask (follows p q)
  l ← points_behind numbers left (at + 2) q
  some (q ∷ l)

-- "A curve has 2 to 24 points, u rising strictly from 0 to 1"
unfoldable pub curve_at : List Float → ℕ → ℕ → Option Source
curve_at numbers first points = do
  ask (leb fewest_points points && leb points most_points)
  p ← point_at numbers first
  ask (eqb p.u 0)
  l ← points_behind numbers (points - 1) (first + 2) p
  some (curve p l)

unfoldable pub source_at : List Float → (kind first points : ℕ) → Option Source
source_at numbers kind first points =
    cond (eqb kind 2) (curve_at numbers first points)
    (cond (eqb points 0) (cond (eqb kind 0) (fixed_at numbers first) (cond (eqb kind 1) (spread_at numbers first) none)) none)

-- ---- Lists

pub record Listed : Type 0 where
  pub source : Source
  pub count : ℕ

-- list k, counted from 0
unfoldable pub list_at_lem : List ℕ → List Float → ℕ → Option Listed
list_at_lem lists numbers k = do
  ask (leb (get_or lists (k * 4 + 1) 0) most_times)
  s ← source_at numbers (get_or lists (k * 4) 0) (get_or lists (k * 4 + 2) 0) (get_or lists (k * 4 + 3) 0)
  some (record { source = s; count = get_or lists (k * 4 + 1) 0 })

-- that many lists, from list k on
unfoldable pub lists_from : List ℕ → List Float → ℕ → ℕ → Option (List Listed)
lists_from lists numbers zero k = some []
lists_from lists numbers (suc left) k = do
  x ← list_at_lem lists numbers k
  l ← lists_from lists numbers left (k + 1)
  some (x ∷ l)

-- the same of lists apart, four numbers each
unfoldable pub lists_in : List (List ℕ) → List Float → Option (List Listed)
lists_in [] numbers = some []
lists_in (four ∷ others) numbers = do
  x ← list_at_lem four numbers 0
  l ← lists_in others numbers
  some (x ∷ l)

-- all of them; four numbers each, and no "seventeenth"
unfoldable pub lists_of : List ℕ → List Float → Option (List Listed)
lists_of lists numbers = do
  ask (eqb (length lists % numbers_per_list) 0 && leb (length lists / numbers_per_list) most_lists)
  lists_from lists numbers (length lists / numbers_per_list) 0
