-- What a double counts on each scale.
use Rattle.std.specs.Prelude.{ℕ, Option, Float}
use Rattle.floats.specs.{declared.Scale.Scale, declared.Scale.TheVariants.Time, declared.Scale.TheVariants.Draw}
use Rattle.floats.specs.Limits.{time_parts, max_time_parts, draw_parts}
use Rattle.floats.specs.Value.{parts_of}

-- "Times, means and halves are multiples of 1/64 from 0 to 1,000,000", "u .. from 0 to 1 in 65,536ths"
abbrev pub counted : Scale → Float → Option ℕ
counted Time x = parts_of time_parts max_time_parts x
counted Draw x = parts_of draw_parts draw_parts x
