-- Sources within the rules, pure: every time that they give is at most 1,000,000.
use Rattle.machine.specs.All.{ℕ, zero, suc, ◌+◌, ◌*◌, ◌-◌, ◌/◌, ◌≤◌, ◌<◌, add-mul, mul-le-mul_left, mul-le-mul_right, div-le_of_le-mul, arith, Bool, true, false, cond, ◌&&◌, List, [], ◌∷◌, ◌≡◌, refl, sym, ap, ◌∙◌, subst, leb, ltb, eqb, get_or, ltb-true, ltb-false, leb-true, eqb-true}
use Rattle.std.specs.Prelude.{Option, None as none, Some as some}
use lib.Ieee.{Float}
use Rattle.codec.proofs.Fields.{both_true}
use Rattle.floats.specs.Limits.{max_time, max_time_parts, max_mean_parts, draw_parts}
use Rattle.floats.specs.Line.{spread_over, spread_under}
use Rattle.streams.specs.Stream.{Inside}
use Rattle.streams.proofs.Generator.{next-inside}
use Rattle.tapes_laws.specs.{most_times, continue, ask, Point, fixed, spread, curve, around, line_time, after, time_of, state_after, time_at, fixed_at, spread_at, point_at, points_behind, curve_at, source_at, Listed, list_at_lem, lists_from, Points}
use Rattle.tapes_laws.specs.Source.{Source}
use Rattle.tapes_laws.proofs.{Reading.none-some, Reading.time-is, Curves.point-is, Curves.behind-points, Drawing.draw-inside, Drawing.head_point}

-- ---- The rules

abbrev Rising : Point → List Point → Type 0
Rising p [] = p.u ≡ draw_parts
Rising p (q ∷ l) = ((p.u < q.u) × (p.time ≤ q.time) × (q.time ≤ max_time_parts)) × Rising q l

abbrev pub Sound : Source → Type 0
Sound (fixed t) = t ≤ max_time_parts
Sound (spread mean half) = (half ≤ mean) × (mean ≤ max_mean_parts)
Sound (curve p l) = (p.u ≡ 0) × Rising p l

rises : (numbers : List Float) (at : ℕ) (p : Point) (l : List Point) → Points numbers at p l → Rising p l
rises numbers at p [] h = h.1
rises numbers at p (q ∷ l) h = ((h.1.0, h.1.1, (head_point numbers (at + 2) q l h.2).time-most), rises numbers (at + 2) q l h.2)

-- ---- What was taken keeps them

module _ (numbers : List Float) (s : Source) where
  fixed-sound : (o : Option ℕ) → ((n : ℕ) → o ≡ some n → n ≤ max_time_parts) → continue o (λ t. some (fixed t)) ≡ some s → Sound s
  unfolding continue
  fixed-sound none k e = none-some e
  fixed-sound (some t) k e = let same : fixed t ≡ s = cc in rw (← same) (k t refl)

  asked-sound : (m h : ℕ) (t : Bool) → leb h m && leb m max_mean_parts ≡ t → continue (ask t) (λ a. some (spread m h)) ≡ some s → Sound s
  unfolding continue ask
  asked-sound m h false e f = none-some f
  asked-sound m h true e f =
      let same : spread m h ≡ s = cc in
      let g = both_true _ _ e in
      rw (← same) (leb-true _ _ g.0, leb-true _ _ g.1)

  half-sound : (m : ℕ) (o : Option ℕ) → continue o (λ h. continue (ask (leb h m && leb m max_mean_parts)) (λ a. some (spread m h))) ≡ some s
      → Sound s
  unfolding continue
  half-sound m none e = none-some e
  half-sound m (some h) e = asked-sound m h _ refl e

  spread-sound : (first : ℕ) → spread_at numbers first ≡ some s → Sound s
  unfolding spread_at continue
  spread-sound first e = go (time_at numbers first) e
    where
      go : (o : Option ℕ) →
          continue o (λ m. continue (time_at numbers (first + 1))
          (λ h. continue (ask (leb h m && leb m max_mean_parts)) (λ a. some (spread m h)))) ≡ some s → Sound s
      go none f = none-some f
      go (some m) f = half-sound m (time_at numbers (first + 1)) f

  points-sound : (first points : ℕ) (p : Point) → point_at numbers first ≡ some p → p.u ≡ 0 → (o : Option (List Point)) →
      points_behind numbers points (first + 2) p ≡ o → continue o (λ l. some (curve p l)) ≡ some s → Sound s
  unfolding continue
  points-sound first points p e z none f g = none-some g
  points-sound first points p e z (some l) f g =
      let same : curve p l ≡ s = cc in
      rw (← same) (z, rises numbers first p l (behind-points numbers points first p l (point-is numbers first p e) f))

  start-sound : (first points : ℕ) (p : Point) → point_at numbers first ≡ some p → (t : Bool) → eqb p.u 0 ≡ t →
      continue (ask t) (λ a. continue (points_behind numbers points (first + 2) p) (λ l. some (curve p l))) ≡ some s → Sound s
  unfolding continue ask
  start-sound first points p e false f g = none-some g
  start-sound first points p e true f g = points-sound first points p e (eqb-true _ _ f) (points_behind numbers points (first + 2) p) refl g

  first-sound : (first points : ℕ) (o : Option Point) → point_at numbers first ≡ o →
      continue o (λ p. continue (ask (eqb p.u 0)) (λ a. continue (points_behind numbers points (first + 2) p) (λ l. some (curve p l))))
      ≡ some s → Sound s
  unfolding continue
  first-sound first points none e f = none-some f
  first-sound first points (some p) e f = start-sound first points p e _ refl f

  curve-sound : (first points : ℕ) → curve_at numbers first points ≡ some s → Sound s
  unfolding curve_at continue
  curve-sound first points e = go (ask _) e
    where
      go : (o : Option (Unit {0})) →
          continue o (λ a. continue (point_at numbers first)
          (λ p. continue (ask (eqb p.u 0))
          (λ b. continue (points_behind numbers (points - 1) (first + 2) p) (λ l. some (curve p l))))) ≡ some s
          → Sound s
      go none f = none-some f
      go (some a) f = first-sound first (points - 1) (point_at numbers first) refl f

  -- a distribution that is accepted gives only times within the limit
  pub source_sound : (kind first points : ℕ) → source_at numbers kind first points ≡ some s → Sound s
  unfolding source_at fixed_at
  source_sound kind first points e = go (eqb kind 2) (eqb points 0) (eqb kind 0) (eqb kind 1) e
    where
      go : (a b c d : Bool) →
          cond a (curve_at numbers first points) (cond b (cond c (fixed_at numbers first) (cond d (spread_at numbers first) none)) none)
          ≡ some s → Sound s
      go true b c d f = curve-sound first points f
      go false false c d f = none-some f
      go false true true d f = fixed-sound (time_at numbers first) (λ n g. (time-is numbers first g).1) f
      go false true false true f = spread-sound first f
      go false true false false f = none-some f

-- ---- Times

line-most : (p q : Point) (v : ℕ) → p.u ≤ v → v ≤ q.u → p.u < q.u → p.time ≤ q.time → q.time ≤ max_time_parts
    → line_time (record { from = p; to = q }) v ≤ max_time
unfolding line_time
line-most p q v from to rising not-falling most =
    let w = q.u - p.u in
    let d = q.time - p.time in
    let x : _ * (v - p.u) ≤ d * w = mul-le-mul_left d (omega arith) in
    let join : p.time * w + d * w ≡ q.time * w = sym (add-mul p.time d w) ∙ ap (λ z. z * w) (omega arith) in
    let top = mul-le-mul_right w most in
    div-le_of_le-mul _ (omega arith)

around-most : (p : Point) (l : List Point) (v : ℕ) → p.u ≤ v → v < draw_parts → Rising p l → line_time (around p l v) v ≤ max_time
unfolding around
around-most p [] v from inside h = absurd (omega arith)
around-most p (q ∷ l) v from inside h = go (ltb v q.u) refl (λ past. around-most q l v past inside h.1)
  where
    go : (t : Bool) → ltb v q.u ≡ t → (q.u ≤ v → line_time (around q l v) v ≤ max_time) →
        line_time (cond t (record { from = p; to = q }) (around q l v)) v ≤ max_time
    go true e rest =
        let past = ltb-true v _ e in
        line-most p q v from (omega arith) h.0.0 h.0.1 h.0.2
    go false e rest = rest (ltb-false v _ e)

spread-most : {m h v : ℕ} → h ≤ m → m ≤ max_mean_parts → v < draw_parts → spread_over m h v / spread_under ≤ max_time
spread-most {h} {v} half mean inside =
    let p : 2 * h * v ≤ 2 * h * draw_parts = mul-le-mul_left _ (omega arith) in
    div-le_of_le-mul spread_under (omega arith)

-- each of its times is at most the limit
pub time-most : (s : Source) (state : ℕ) → Sound s → Inside state → time_of s state ≤ max_time
unfolding time_of
time-most (fixed t) state sound inside = omega arith
time-most (spread mean half) state sound inside =
    spread-most sound.0 sound.1 (draw-inside (next-inside inside))
time-most (curve p l) state sound inside =
    around-most p l _ (omega arith) (draw-inside (next-inside inside)) sound.1

-- and the generator's state stays inside
pub after-inside : (s : Source) {state : ℕ} → Inside state → Inside (after s state)
unfolding after
after-inside (fixed t) inside = inside
after-inside (spread mean half) inside = next-inside inside
after-inside (curve p l) inside = next-inside inside

pub behind-inside : (s : Source) (n : ℕ) {state : ℕ} → Inside state → Inside (state_after s n state)
unfolding state_after
behind-inside s zero inside = inside
behind-inside s (suc n) {state} inside = behind-inside s n (after-inside s inside)

-- ---- Lists

abbrev pub SoundLists : List Listed → Type 0
SoundLists [] = Unit {0}
SoundLists (x ∷ l) = (Sound x.source × (x.count ≤ most_times)) × SoundLists l

module _ (lists : List ℕ) (numbers : List Float) where
  list-sound : (k : ℕ) (x : Listed) → list_at_lem lists numbers k ≡ some x → Sound x.source × (x.count ≤ most_times)
  unfolding list_at_lem continue ask
  list-sound k x e = asked (leb n most_times) refl e
    where
      n : ℕ
      n = get_or lists (k * 4 + 1) 0

      given : n ≤ most_times → (o : Option Source) → ((s : Source) → o ≡ some s → Sound s) →
          continue o (λ s. some (record { source = s; count = n })) ≡ some x → Sound x.source × (x.count ≤ most_times)
      given h none sound f = none-some f
      given h (some s) sound f =
          let same : record { source = s; count = n } ≡ x = cc in
          subst (λ (y : Listed). Sound y.source × (y.count ≤ most_times)) same (sound s refl, h)

      asked : (t : Bool) → leb n most_times ≡ t →
          continue (ask t)
          (λ a. continue (source_at numbers (get_or lists (k * 4) 0) (get_or lists (k * 4 + 2) 0) (get_or lists (k * 4 + 3) 0))
          (λ s. some (record { source = s; count = n }))) ≡ some x →
          Sound x.source × (x.count ≤ most_times)
      asked false f g = none-some g
      asked true f g =
          given (leb-true _ _ f) (source_at numbers (get_or lists (k * 4) 0) (get_or lists (k * 4 + 2) 0) (get_or lists (k * 4 + 3) 0))
          (λ s h. source_sound numbers s (get_or lists (k * 4) 0) (get_or lists (k * 4 + 2) 0) (get_or lists (k * 4 + 3) 0) h) g

  pub lists-sound : (left k : ℕ) (ls : List Listed) → lists_from lists numbers left k ≡ some ls → SoundLists ls
  unfolding lists_from continue
  lists-sound zero k ls e = let same : [] ≡ ls = cc in rw (← same) tt
  lists-sound (suc left) k ls e = go (λ l. lists-sound left _ l) _ refl e
    where
      rest : ((l : List Listed) → lists_from lists numbers left (k + 1) ≡ some l → SoundLists l) → (x : Listed)
          → list_at_lem lists numbers k ≡ some x →
          (o : Option (List Listed)) → lists_from lists numbers left (k + 1) ≡ o → continue o (λ l. some (x ∷ l)) ≡ some ls → SoundLists ls
      rest more x f none g h = none-some h
      rest more x f (some l) g h =
          let same : x ∷ l ≡ ls = cc in
          rw (← same) (list-sound k x f, more l g)

      go : ((l : List Listed) → lists_from lists numbers left (k + 1) ≡ some l → SoundLists l) → (o : Option Listed)
          → list_at_lem lists numbers k ≡ o →
          continue o (λ x. continue (lists_from lists numbers left (k + 1)) (λ l. some (x ∷ l))) ≡ some ls → SoundLists ls
      go more none f h = none-some h
      go more (some x) f h = rest more x f _ refl h
