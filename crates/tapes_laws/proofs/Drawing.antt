-- A draw, pure: the walk to the segment around u, and the time that each kind of distribution gives.
use Rattle.machine.specs.All.{ℕ, ◌+◌, ◌≤◌, ◌<◌, arith, true, false, List, [], ◌∷◌, ◌≡◌, refl, ◌∙◌, ltb, length, get_or, lt-ltb, le-ltb, ltb-true, ltb-false, sym}
use lib.Ieee.{Float, nan, lt}
use lib.Pow.{pow_pos}
use Rattle.floats.specs.{declared.Segment.Segment, Limits.time_parts, Limits.draw_parts, Value.Is, Value.whole_part_lem}
use Rattle.floats.specs.Line.{Ends, OnLine, Exactly, line_over, line_under, spread_over, spread_under, Width}
use Rattle.floats.proofs.Whole.{whole_is, order_is}
use Rattle.streams.specs.Stream.{Inside, next}
use Rattle.tapes_laws.specs.{declared.Distribution.Distribution, Source.Source}
use Rattle.tapes_laws.specs.declared.Distribution.TheVariants.{Fixed, Spread, Curve}
use Rattle.tapes_laws.specs.{Point, fixed, spread, curve, draw_of, around, line_time, after, time_of, PointIs, Points, Meant, Surrounds}

-- ---- The walk

pub head_point : (numbers : List Float) (at : ℕ) (p : Point) (l : List Point) → Points numbers at p l → PointIs numbers at p
head_point numbers at p [] h = h.0
head_point numbers at p (q ∷ l) h = h.0

-- the points from an index on, around the same two
pub record Here (numbers : List Float) (at : ℕ) (p : Point) (l : List Point) (v : ℕ) : Type 0 where
  pub first : Point
  pub others : List Point
  pub points : Points numbers at first others
  pub from : first.u ≤ v
  pub same : around p l v ≡ around first others v

-- the walk along a curve begins with its first point,
pub here-start : (numbers : List Float) (at : ℕ) (p : Point) (l : List Point) (v : ℕ) → Points numbers at p l → p.u ≤ v
    → Here numbers at p l v
here-start numbers at p l v points from = record { first = p; others = l; points = points; from = from; same = refl }

-- the segment that begins at an index
abbrev pub segment_at : List Float → ℕ → Segment
segment_at numbers at =
    record {
      u0 = get_or numbers at nan;
      time0 = get_or numbers (at + 1) nan;
      u1 = get_or numbers (at + 2) nan;
      time1 = get_or numbers (at + 3) nan;
    }

module _ (numbers : List Float) (at : ℕ) (p : Point) (l : List Point) (v : ℕ) (u : Float) (inside : v < draw_parts)
    (is : Is u v draw_parts) where
  -- the next point, which there is
  record Next : Type 0 where
    pub start : Point
    pub end : Point
    pub rest : List Point
    pub start_is : PointIs numbers at start
    pub steps : (start.u < end.u) × (start.time ≤ end.time)
    pub end_is : PointIs numbers (at + 2) end
    pub points : Points numbers (at + 2) end rest
    pub from : start.u ≤ v
    pub same : around p l v ≡ around start (end ∷ rest) v

  next_point : Here numbers at p l v → Next
  next_point h = go h.first h.others h.points h.from h.same
    where
      go : (q : Point) (m : List Point) → Points numbers at q m → q.u ≤ v → around p l v ≡ around q m v → Next
      go q [] points from same = absurd (omega (arith, points.1))
      go q (r ∷ m) points from same =
          record {
            start = q;
            end = r;
            rest = m;
            start_is = points.0;
            steps = points.1;
            end_is = head_point numbers (at + 2) r m points.2;
            points = points.2;
            from = from;
            same = same;
          }

  compared : (n : Next) → lt u (get_or numbers (at + 2) nan) ≡ ltb v n.end.u
  compared n = order_is u (get_or numbers (at + 2) nan) v n.end.u draw_parts (pow_pos 16) is n.end_is.u-is

  -- stops at the segment around u,
  pub here-stops : Here numbers at p l v → lt u (get_or numbers (at + 2) nan) ≡ true → Surrounds (segment_at numbers at) (around p l v) v
  unfolding around
  here-stops h t =
      let n = next_point h in
      let past = ltb-true v n.end.u (cc (compared n, t)) in
      let b : around p l v ≡ record { from = n.start; to = n.end } = n.same ∙ rw lt-ltb in
      let third : at + 2 + 1 ≡ at + 3 = omega arith in
      rw b (record {
        ends =
            record {
              from-u = n.start_is.u-is;
              from-time = n.start_is.time-is;
              to-u = n.end_is.u-is;
              to-time = rw third at n.end_is.time-is;
              rising = n.steps.0;
              last = n.end_is.u-most;
              not-falling = n.steps.1;
              most = n.end_is.time-most;
            };
        from-most = n.from;
        to-least = omega arith;
      })

  -- and else goes one point on
  pub here-goes : Here numbers at p l v → lt u (get_or numbers (at + 2) nan) ≡ false → Here numbers (at + 2) p l v
  unfolding around
  here-goes h t =
      let n = next_point h in
      let past : n.end.u ≤ v = ltb-false v n.end.u (sym (compared n) ∙ t) in
      record {
        first = n.end;
        others = n.rest;
        points = n.points;
        from = past;
        same = n.same ∙ rw (le-ltb v n.end.u past);
      }

  pub here-inside : Here numbers at p l v → at + 3 < length numbers
  here-inside h = omega (arith, (next_point h).end_is.inside)

-- ---- The draw

-- a state's u is below 1
pub draw-inside : {r : ℕ} → Inside r → draw_of r < draw_parts
unfolding draw_of
draw-inside h = omega arith

module _ (numbers : List Float) (d : Distribution) (s : Source) (state : ℕ) (meant : Meant numbers d s) where
  -- a fixed time draws nothing: its whole part, and the state stays
  pub fixed-drawn : (x : Float) → d ≡ Fixed x → (whole_part_lem x ≡ time_of s state) × (state ≡ after s state)
  unfolding time_of after
  fixed-drawn x e = go s (rw e at meant)
    where
      go : (s : Source) → Meant numbers (Fixed x) s → (whole_part_lem x ≡ time_of s state) × (state ≡ after s state)
      go (fixed t) h = (whole_is t time_parts (pow_pos 6) (omega arith) x h.0, refl)
      go (spread mean half) h = absurd h
      go (curve p l) h = absurd h

  module _ (r : ℕ) (next-is : r ≡ next state) (below : draw_of r < draw_parts) (u : Float) (is : Is u (draw_of r) draw_parts) where
    pub spread-drawn : (x y z : Float) → d ≡ Spread x y →
        ((m h v : ℕ) → Width x y m h → Is u v draw_parts → v ≤ draw_parts → Exactly z (spread_over m h v) spread_under) →
        (whole_part_lem z ≡ time_of s state) × (r ≡ after s state)
    unfolding time_of after
    spread-drawn x y z e exact = go s (rw e at meant)
      where
        go : (s : Source) → Meant numbers (Spread x y) s → (whole_part_lem z ≡ time_of s state) × (r ≡ after s state)
        go (fixed t) h = absurd h
        go (spread mean half) h = (
          cc ((exact mean half _ h is (omega (arith, below))).whole, next-is),
          next-is,
        )
        go (curve p l) h = absurd h

    pub curve-drawn : (first : ℕ) (seg : Segment) (z : Float) → d ≡ Curve first →
        ((p : Point) (l : List Point) (v : ℕ) → Points numbers first p l → p.u ≤ v → v < draw_parts → Is u v draw_parts
        → Surrounds seg (around p l v) v) →
        ((v0 t0 v1 t1 v : ℕ) → Ends seg.u0 seg.time0 seg.u1 seg.time1 v0 t0 v1 t1 → Is u v draw_parts → v0 ≤ v → v ≤ v1 →
        OnLine z (line_over v0 t0 v1 t1 v) (line_under v0 v1)) →
        (whole_part_lem z ≡ time_of s state) × (r ≡ after s state)
    unfolding time_of after line_time
    curve-drawn first seg z e surrounds near = go s (rw e at meant)
      where
        go : (s : Source) → Meant numbers (Curve first) s → (whole_part_lem z ≡ time_of s state) × (r ≡ after s state)
        go (fixed t) h = absurd h
        go (spread mean half) h = absurd h
        go (curve p l) h =
            let v = draw_of r in
            let g = surrounds p l v h.1 (omega arith) below is in (
              cc ((near _ _ _ _ v g.ends is g.from-most g.to-least).whole, next-is),
              next-is,
            )
