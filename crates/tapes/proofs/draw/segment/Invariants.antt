-- `tapes::segment` meets its contract. The invariant: the points from here on are around the same two; the measure is what is left of the
-- doubles.
use Rattle.machine.specs.All.{ℕ, ◌+◌, ◌-◌, ◌≤◌, ◌<◌, List, length}
use Rattle.floats.specs.{Limits.draw_parts, Value.Is}
use Rattle.tapes_laws.specs.{declared.Point.Point, Held.Points}
use Rattle.tapes_laws.proofs.Drawing.{Here}
use Rattle.tapes.proofs.draw.segment.Given as goal

abbrev pub invariant-loop-at : goal.invariant-loop-at
invariant-loop-at l =
    (l.at ≤ 4294967295 + length l.numbers)
    × ((p : Point) (points : List Point) (v : ℕ) → Points l.numbers l.first p points → p.u ≤ v → v < draw_parts → Is l.u v draw_parts
    → Here l.numbers l.at p points v)

abbrev pub decreases-loop-at : goal.decreases-loop-at
decreases-loop-at l = length l.numbers - l.at
