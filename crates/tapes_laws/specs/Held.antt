-- Which doubles stand for which source, for contracts between functions of this crate.
use Rattle.machine.specs.All.{ℕ, List, [], length, get_or, take, number_bytes}
use Rattle.std.specs.Prelude.{Option, None as none, Some as some, Result}
use Rattle.std.specs.Prelude.{Float, ◌+◌, ◌≤◌, ◌<◌, ◌∷◌, ◌≡◌, ◌-◌, ◌^◌, min}
use Rattle.codec.specs.Writing.{written, put}
use Rattle.std.specs.Float.{nan}
use Rattle.floats.specs.{Limits.time_parts, Limits.max_time_parts, Limits.draw_parts, Value.Is, Line.Width, Line.Ends, declared.Segment.Segment}
use Rattle.constants.specs.declared.refusals.Refusal.{Refusal}
use Rattle.tapes_laws.specs.{declared.Distribution.Distribution, declared.Row.Row, Given.Listed, Given.lists_in, Answers.Says}
use Rattle.tapes_laws.specs.declared.Distribution.TheVariants.{Fixed, Spread, Curve}
use Rattle.tapes_laws.specs.Source.{Point, Source, fixed, spread, curve, Between}
use Rattle.tapes_laws.specs.Tape.{from_lists, leaves}

-- the two doubles of a point
pub record PointIs (numbers : List Float) (at : ℕ) (p : Point) : Type 0 where
  pub inside : at + 1 < length numbers
  pub u-is : Is (get_or numbers at nan) p.u draw_parts
  pub time-is : Is (get_or numbers (at + 1) nan) p.time time_parts
  pub u-most : p.u ≤ draw_parts
  pub time-most : p.time ≤ max_time_parts

-- a point and those behind it, up to u = 1
abbrev pub Points : List Float → ℕ → Point → List Point → Type 0
Points numbers at p [] = PointIs numbers at p × (p.u ≡ draw_parts)
Points numbers at p (q ∷ l) = PointIs numbers at p × ((p.u < q.u) × (p.time ≤ q.time)) × Points numbers (at + 2) q l

abbrev pub Meant : List Float → Distribution → Source → Type 0
Meant numbers (Fixed x) (fixed t) = Is x t time_parts × (t ≤ max_time_parts)
Meant numbers (Fixed x) (spread mean half) = ⊥
Meant numbers (Fixed x) (curve p l) = ⊥
Meant numbers (Spread x y) (fixed t) = ⊥
Meant numbers (Spread x y) (spread mean half) = Width x y mean half
Meant numbers (Spread x y) (curve p l) = ⊥
Meant numbers (Curve i) (fixed t) = ⊥
Meant numbers (Curve i) (spread mean half) = ⊥
Meant numbers (Curve i) (curve p l) = (p.u ≡ 0) × Points numbers i p l

-- an answer that is a distribution, and the source that the definition has
abbrev pub Chosen : List Float → Option Distribution → Option Source → Type 0
Chosen numbers (some d) none = ⊥
Chosen numbers (some d) (some s) = Meant numbers d s
Chosen numbers none none = Unit {0}
Chosen numbers none (some s) = ⊥

-- a list that is held, and the list that the definition has
abbrev pub Holds : List Float → Row → Listed → Type 0
Holds numbers r l = Meant numbers r.distribution l.source × (r.count ≡ l.count)

abbrev pub Listing : List Float → Option Row → Option Listed → Type 0
Listing numbers (some r) none = ⊥
Listing numbers (some r) (some l) = Holds numbers r l
Listing numbers none none = Unit {0}
Listing numbers none (some l) = ⊥

-- lists one by one
abbrev pub Rows : List Float → List Row → List Listed → Type 0
Rows numbers [] [] = Unit {0}
Rows numbers [] (l ∷ ls) = ⊥
Rows numbers (r ∷ rs) [] = ⊥
Rows numbers (r ∷ rs) (l ∷ ls) = Holds numbers r l × Rows numbers rs ls

-- the front of an array holds them; without an answer one of them is refused
pub record Filled (numbers : List Float) (fours : List (List ℕ)) (rows : List Row) : Type 0 where
  pub lists : List Listed
  pub is : lists_in fours numbers ≡ some lists
  pub held : Rows numbers (take (length fours) rows) lists

abbrev pub Reading : List Float → List (List ℕ) → Option (List Row) → Type 0
Reading numbers fours none = lists_in fours numbers ≡ none
Reading numbers fours (some rows) = Filled numbers fours rows

-- a segment's doubles are those of two points around v
pub record Surrounds (s : Segment) (b : Between) (v : ℕ) : Type 0 where
  pub ends : Ends s.u0 s.time0 s.u1 s.time1 b.from.u b.from.time b.to.u b.to.time
  pub from-most : b.from.u ≤ v
  pub to-least : v ≤ b.to.u

-- ---- Numbers taken one after the other

abbrev pub Steps : (ℕ → List ℕ → ℕ → ℕ → List ℕ → Type 0) → List ℕ → List ℕ → ℕ → ℕ → List ℕ → Type 0
Steps step [] before at next behind = (next ≡ at) × (behind ≡ before)
Steps step (n ∷ l) before at next behind = (i : ℕ) × (b : List ℕ) × step n before at i b × Steps step l b i next behind

-- it is counted, up to the largest number
abbrev pub Measures : ℕ → List ℕ → ℕ → ℕ → List ℕ → Type 0
Measures n before at next behind = (next ≡ min (at + length (number_bytes n)) (2 ^ 64 - 1)) × (behind ≡ before)

-- it is written
abbrev pub Writes : ℕ → List ℕ → ℕ → ℕ → List ℕ → Type 0
Writes n before at next behind = written next behind ≡ put n (written at before)

-- ---- A tape, once the stream has its state

pub record Maker (lists : Option (List Listed)) (state : ℕ) (before : List ℕ) (r : Result ℕ Refusal) (behind : List ℕ) : Type 0 where
  pub answered : Says r (from_lists lists state (length before))
  pub bytes : behind ≡ leaves (from_lists lists state (length before)) before
