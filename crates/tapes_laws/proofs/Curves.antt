-- A curve's points, pure: read one after the other, and what they stand for when all were taken.
use Rattle.machine.specs.All.{cases, ℕ, zero, suc, ◌+◌, ◌-◌, ◌≤◌, ◌<◌, arith, Bool, true, false, List, [], ◌∷◌, ◌≡◌, refl, ap, ◌∙◌, eqb, length, le-leb, lt-leb, lt-ltb, le-ltb, ltb-true, leb-true, eq-eqb, ne_eqb, eqb-true, cond, sym, subst}
use Rattle.std.specs.Prelude.{Option, None as none, Some as some}
use lib.Ieee.{Float}
use Rattle.floats.specs.Limits.{draw_parts}
use Rattle.codec.proofs.Fields.{both_true}
use Rattle.tapes_laws.specs.{declared.Distribution.TheVariants.Curve}
use Rattle.tapes_laws.specs.{fewest_points, most_points, continue, ask, Point, curve, time_at, u_at, point_at, follows, points_behind, curve_at, PointIs, Points, Chosen, step_of, is_given}
use Rattle.tapes_laws.proofs.Reading.{none-some, time-inside, time-is, u-is}

-- ---- One point

abbrev pub corner : ℕ → ℕ → Point
corner u time = record { u = u; time = time }

module _ (numbers : List Float) (at : ℕ) where
  pub point_no-u : u_at numbers at ≡ none → none ≡ point_at numbers at
  unfolding point_at continue
  point_no-u e = rw e

  module _ {u : ℕ} (e : u_at numbers at ≡ some u) where
    pub point_no-time : time_at numbers (at + 1) ≡ none → none ≡ point_at numbers at
    unfolding point_at continue
    point_no-time f = rw (e, f)

    -- a point is a u and a time
    pub point-taken : {time : ℕ} → time_at numbers (at + 1) ≡ some time → some (corner u time) ≡ point_at numbers at
    unfolding point_at continue
    point-taken f = rw (e, f)

  -- what a point that was taken stands for
  pub point-is : (p : Point) → point_at numbers at ≡ some p → PointIs numbers at p
  unfolding point_at continue
  point-is p e = go (u_at numbers at) refl e
    where
      timed : (u : ℕ) → u_at numbers at ≡ some u → (o : Option ℕ) → time_at numbers (at + 1) ≡ o →
          continue o (λ time. some (corner u time)) ≡ some p → PointIs numbers at p
      timed u f none g h = none-some h
      timed u f (some time) g h =
          let same : corner u time ≡ p = cc in
          let is-u = u-is numbers at f in
          let is-time = time-is numbers (at + 1) g in
          subst (λ (q : Point). PointIs numbers at q) same
          (record {
            inside = time-inside numbers (at + 1) g;
            u-is = is-u.0;
            time-is = is-time.0;
            u-most = is-u.1;
            time-most = is-time.1;
          })

      go : (o : Option ℕ) → u_at numbers at ≡ o →
          continue o (λ u. continue (time_at numbers (at + 1)) (λ time. some (corner u time))) ≡ some p → PointIs numbers at p
      go none f h = none-some h
      go (some u) f h = timed u f (time_at numbers (at + 1)) refl h

pub point-inside : (numbers : List Float) (at : ℕ) (p : Point) → point_at numbers at ≡ some p → at < length numbers
point-inside numbers at p e = omega (arith, (point-is numbers at p e).inside)

-- ---- One point behind another

module _ (numbers : List Float) (at : ℕ) (p : Point) where
  pub step-none : point_at numbers at ≡ none → none ≡ step_of numbers at p
  unfolding step_of continue
  step-none e = rw e

  module _ {q : Point} (e : point_at numbers at ≡ some q) where
    pub step_back : q.u ≤ p.u → none ≡ step_of numbers at p
    unfolding step_of continue follows ask
    step_back h = rw (e, le-ltb p.u q.u h)

    pub step_falls : p.u < q.u → q.time < p.time → none ≡ step_of numbers at p
    unfolding step_of continue follows ask
    step_falls h k = rw (e, lt-ltb p.u q.u h, lt-leb p.time q.time k)

    -- the next point lies further on, and not lower
    pub step-taken : p.u < q.u → p.time ≤ q.time → some q ≡ step_of numbers at p
    unfolding step_of continue follows ask
    step-taken h k = rw (e, lt-ltb p.u q.u h, le-leb p.time q.time k)

  -- with a step the points behind go on
  behind : (left : ℕ) → points_behind numbers (suc left) at p
      ≡ continue (step_of numbers at p) (λ q. continue (points_behind numbers left (at + 2) q) (λ l. some (q ∷ l)))
  unfolding points_behind step_of continue
  behind left = go (point_at numbers at)
    where
      asked : (q : Point) (o : Option (Unit {0})) →
          continue o (λ a. continue (points_behind numbers left (at + 2) q) (λ l. some (q ∷ l)))
          ≡ continue (continue o (λ a. some q)) (λ q'. continue (points_behind numbers left (at + 2) q') (λ l. some (q' ∷ l)))
      asked q none = refl
      asked q (some a) = refl

      go : (o : Option Point) →
          continue o (λ q. continue (ask (follows p q)) (λ a. continue (points_behind numbers left (at + 2) q) (λ l. some (q ∷ l))))
          ≡ continue (continue o (λ q. continue (ask (follows p q)) (λ a. some q)))
          (λ q. continue (points_behind numbers left (at + 2) q) (λ l. some (q ∷ l)))
      go none = refl
      go (some q) = asked q (ask (follows p q))

  pub behind-stops : (left : ℕ) → step_of numbers at p ≡ none → 0 < left → false ≡ is_given (points_behind numbers left at p)
  unfolding continue is_given
  behind-stops zero e h = absurd (omega arith)
  behind-stops (suc left) e h = rw (behind left, e)

  pub behind-goes : (left : ℕ) (q : Point) → step_of numbers at p ≡ some q → 0 < left →
      is_given (points_behind numbers (left - 1) (at + 2) q) ≡ is_given (points_behind numbers left at p)
  unfolding continue is_given
  behind-goes zero q e h = absurd (omega arith)
  behind-goes (suc left) q e h =
      let one : suc left - 1 ≡ left = omega arith in
      ap (λ (n : ℕ). is_given (points_behind numbers n (at + 2) q)) one
      ∙ rw (behind left, e) (same (points_behind numbers left (at + 2) q))
    where
      same : (o : Option (List Point)) → is_given o ≡ is_given (continue o (λ l. some (q ∷ l)))
      same none = refl
      same (some l) = refl

step-facts : (p q : Point) → follows p q ≡ true → (p.u < q.u) × (p.time ≤ q.time)
unfolding follows
step-facts p q e = let t = both_true _ _ e in (ltb-true _ _ t.0, leb-true _ _ t.1)

-- the last u of a curve is 1
pub behind-ends : (numbers : List Float) (left at : ℕ) (p : Point) → left ≤ 0
    → eqb p.u draw_parts ≡ is_given (points_behind numbers left at p)
unfolding points_behind continue ask is_given
behind-ends numbers zero at p h = go (eqb p.u draw_parts)
  where
    go : (t : Bool) → t ≡ is_given {A = List Point} (continue (ask t) (λ a. some []))
    go true = refl
    go false = refl
behind-ends numbers (suc left) at p h = absurd (omega arith)

-- ---- What the points stand for

abbrev Rest : List Float → ℕ → ℕ → Type 0
Rest numbers left at =
    (q : Point) (m : List Point) → PointIs numbers (at + 2) q → points_behind numbers left (at + 2 + 2) q ≡ some m
    → Points numbers (at + 2) q m

-- points that are accepted stand in the numbers as doubles of their values
pub behind-points : (numbers : List Float) (left at : ℕ) (p : Point) (l : List Point) → PointIs numbers at p →
    points_behind numbers left (at + 2) p ≡ some l → Points numbers at p l
unfolding points_behind continue ask
behind-points numbers zero at p l is e =
    cases _
    (λ f. let same : [] ≡ l = cc in
    rw (← same) (is, eqb-true _ _ f))
    (λ f. none-some (rw f at e))
behind-points numbers (suc left) at p l is e = found (λ q m. behind-points numbers left _ q m) _ refl e
  where
    behind_it : Rest numbers left at → (q : Point) → point_at numbers (at + 2) ≡ some q → (p.u < q.u) × (p.time ≤ q.time)
        → (o : Option (List Point)) →
        points_behind numbers left (at + 2 + 2) q ≡ o → continue o (λ m. some (q ∷ m)) ≡ some l → Points numbers at p l
    behind_it rest q f steps none g h = none-some h
    behind_it rest q f steps (some m) g h =
        let same : q ∷ m ≡ l = cc in
        rw (← same) (is, steps, rest q m (point-is numbers _ q f) g)

    asked : Rest numbers left at → (q : Point) → point_at numbers (at + 2) ≡ some q → (t : Bool) → follows p q ≡ t →
        continue (ask t) (λ a. continue (points_behind numbers left (at + 2 + 2) q) (λ m. some (q ∷ m))) ≡ some l → Points numbers at p l
    asked rest q f false g h = none-some h
    asked rest q f true g h =
        behind_it rest q f (unfold follows in let t = both_true _ _ g in (ltb-true _ _ t.0, leb-true _ _ t.1)) _ refl h

    found : Rest numbers left at → (o : Option Point) → point_at numbers (at + 2) ≡ o →
        continue o (λ q. continue (ask (follows p q)) (λ a. continue (points_behind numbers left (at + 2 + 2) q) (λ m. some (q ∷ m))))
        ≡ some l → Points numbers at p l
    found rest none f h = none-some h
    found rest (some q) f h = asked rest q f _ refl h

-- ---- The curve

module _ (numbers : List Float) (first points : ℕ) where
  -- the questions to a curve in their order: too few points,
  pub curve-few : points < fewest_points → Chosen numbers none (curve_at numbers first points)
  unfolding curve_at continue ask
  curve-few h = rw (lt-leb fewest_points points h) tt

  module _ (some-points : fewest_points ≤ points) where
    -- too many,
    pub curve-many : most_points < points → Chosen numbers none (curve_at numbers first points)
    unfolding curve_at continue ask
    curve-many h = rw (le-leb fewest_points points some-points, lt-leb points most_points h) tt

    module _ (few : points ≤ most_points) where
      -- no first point,
      pub curve_no_point : point_at numbers first ≡ none → Chosen numbers none (curve_at numbers first points)
      unfolding curve_at continue ask
      curve_no_point e = rw (le-leb fewest_points points some-points, le-leb points most_points few, e) tt

      module _ {p : Point} (e : point_at numbers first ≡ some p) where
        -- a first u that is not 0,
        pub curve-late : (p.u ≡ 0 → ⊥) → Chosen numbers none (curve_at numbers first points)
        unfolding curve_at continue ask
        curve-late h = rw (le-leb fewest_points points some-points, le-leb points most_points few, e, ne_eqb p.u 0 h) tt

        module _ (start : p.u ≡ 0) where
          rest : curve_at numbers first points ≡ continue (points_behind numbers (points - 1) (first + 2) p) (λ l. some (curve p l))
          unfolding curve_at continue ask
          rest = rw (le-leb fewest_points points some-points, le-leb points most_points few, e, eq-eqb p.u 0 start)

          -- a point that does not rise, or a last u that is not 1
          pub curve-broken : false ≡ is_given (points_behind numbers (points - 1) (first + 2) p)
              → Chosen numbers none (curve_at numbers first points)
          unfolding continue is_given
          curve-broken h = rw rest (go (points_behind numbers (points - 1) (first + 2) p) h)
            where
              go : (o : Option (List Point)) → false ≡ is_given o → Chosen numbers none (continue o (λ l. some (curve p l)))
              go none h = tt
              go (some l) h = let z : ◌≡◌ {A = ℕ} 0 1 = ap (λ (b : Bool). cond b 1 0) h in absurd (omega arith)

          pub curve-taken : true ≡ is_given (points_behind numbers (points - 1) (first + 2) p)
              → Chosen numbers (some (Curve first)) (curve_at numbers first points)
          unfolding continue is_given
          curve-taken h = rw rest (go (points_behind numbers (points - 1) (first + 2) p) refl h)
            where
              go : (o : Option (List Point)) → points_behind numbers (points - 1) (first + 2) p ≡ o → true ≡ is_given o →
                  Chosen numbers (some (Curve first)) (continue o (λ l. some (curve p l)))
              go none f h = let z : ◌≡◌ {A = ℕ} 0 1 = ap (λ (b : Bool). cond b 1 0) (sym h) in absurd (omega arith)
              go (some l) f h = (start, behind-points numbers (points - 1) first p l (point-is numbers first p e) f)
