-- Document 02, item 4: a curve's segment and a spread, as doubles and over whole numbers. In whole numbers u is counted in
-- 65,536ths (v) and time in 64ths (t).
use Rattle.std.specs.Prelude.{◌≡◌, ℕ, ◌+◌, ◌-◌, ◌*◌, ◌/◌, ◌<◌, ◌≤◌, from_bits, Float}
use Rattle.std.specs.Float.{binary64}
use Rattle.std.specs.Float.Ieee.{add, sub, mul, div}
use Rattle.floats.specs.Limits.{time_parts, max_time_parts, max_mean_parts, draw_parts, million}
use Rattle.floats.specs.Value.{Is, whole_part_lem}

-- ---- Curve

-- "The double is time0 + ((time1 - time0) × (u - u0)) ÷ (u1 - u0), each operation rounded once."
unfoldable pub line_double : (u0 time0 u1 time1 u : Float) → Float
line_double u0 time0 u1 time1 u =
    add binary64 time0
    (div binary64 (mul binary64 (sub binary64 time1 time0) (sub binary64 u u0)) (sub binary64 u1 u0))

-- the exact line through (v0, t0) and (v1, t1) is at v this number of ticks, over the one below
abbrev pub line_over : (v0 t0 v1 t1 v : ℕ) → ℕ
line_over v0 t0 v1 t1 v = t0 * (v1 - v0) + (t1 - t0) * (v - v0)

abbrev pub line_under : (v0 v1 : ℕ) → ℕ
line_under v0 v1 = time_parts * (v1 - v0)

-- "A curve segment holds its two end points as doubles": what these are worth
pub record Ends (u0 time0 u1 time1 : Float) (v0 t0 v1 t1 : ℕ) : Type 0 where
  pub from-u : Is u0 v0 draw_parts
  pub from-time : Is time0 t0 time_parts
  pub to-u : Is u1 v1 draw_parts
  pub to-time : Is time1 t1 time_parts
  pub rising : v0 < v1
  pub last : v1 ≤ draw_parts
  pub not-falling : t0 ≤ t1
  pub most : t1 ≤ max_time_parts

-- x, not negative, "lies within one millionth" of n / d
pub record Near (x : Float) (n d : ℕ) : Type 0 where
  pub over : ℕ
  pub under : ℕ
  pub positive : 0 < under
  pub is : Is x over under
  pub not-above : over * d * million ≤ n * under * million + d * under
  pub not-below : n * under * million ≤ over * d * million + d * under

-- "The interpolated double lies within one millionth of the exact line. The time written is the whole part of the double, so
-- the exact line is from time - 1/1,000,000 to below time + 1 + 1/1,000,000, both over whole numbers." More holds: the time
-- written is the whole part of the exact line n / d.
pub record OnLine (x : Float) (n d : ℕ) : Type 0 where
  pub near : Near x n d
  pub low : whole_part_lem x * d * million ≤ n * million + d
  pub high : n * million < (whole_part_lem x + 1) * d * million + d
  pub whole : whole_part_lem x ≡ n / d

-- ---- Spread

-- "A spread gives mean - half + 2 × half × u"
unfoldable pub spread_double : (mean half u : Float) → Float
spread_double mean half u =
    add binary64 (sub binary64 mean half) (mul binary64 (mul binary64 (from_bits binary64 0x4000000000000000) half) u)

-- in 64ths of 65,536ths of a tick
abbrev pub spread_over : (m h v : ℕ) → ℕ
spread_over m h v = (m - h) * draw_parts + 2 * h * v

abbrev pub spread_under : ℕ
spread_under = time_parts * draw_parts

-- what a mean and a half-width are worth: "a spread has half at most mean and mean at most 500,000"
pub record Width (mean half : Float) (m h : ℕ) : Type 0 where
  pub mean-is : Is mean m time_parts
  pub half_is : Is half h time_parts
  pub half-most : h ≤ m
  pub mean-most : m ≤ max_mean_parts

-- "without any rounding error"
pub record Exactly (x : Float) (n d : ℕ) : Type 0 where
  pub is : Is x n d
  pub whole : whole_part_lem x ≡ n / d
