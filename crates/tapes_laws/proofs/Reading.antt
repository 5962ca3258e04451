-- What a call gives, pure: what is read from the doubles, case by case.
use Rattle.machine.specs.All.{cases, ℕ, ◌+◌, ◌≤◌, ◌<◌, arith, List, ◌≡◌, refl, ◌∙◌, length, get_or, get_or-eq_default, le-leb, lt-leb, ltb-true}
use Rattle.std.specs.Prelude.{Option, None as none, Some as some}
use lib.Ieee.{Float, nan}
use lib.Pow.{pow_pos}
use Rattle.floats.specs.{Value.Is, Value.parts_of, Scales.counted, declared.Scale.Scale, declared.Scale.TheVariants.Time, declared.Scale.TheVariants.Draw}
use Rattle.floats.specs.Limits.{time_parts, max_time_parts, max_mean_parts, draw_parts}
use Rattle.floats.proofs.Checked.{parts_is}
use Rattle.tapes_laws.specs.declared.Distribution.TheVariants.{Fixed, Spread}
use Rattle.tapes_laws.specs.{continue, ask, time_at, u_at, counted_at, fixed_at, spread_at, Chosen}

pub none-some : {A B : Type 0} {a : A} → ◌≡◌ {A = Option A} none (some a) → B
none-some e = let z : ◌≡◌ {A = ℕ} 0 1 = cc in absurd (omega arith)

-- ---- A double

module _ (numbers : List Float) (at : ℕ) where
  pub time-past : length numbers ≤ at → none ≡ time_at numbers at
  unfolding time_at parts_of
  time-past h = rw (get_or-eq_default numbers nan h)

  pub u-past : length numbers ≤ at → none ≡ u_at numbers at
  unfolding u_at parts_of
  u-past h = rw (get_or-eq_default numbers nan h)

  inside_of : {n : ℕ} {o : Option ℕ} → (length numbers ≤ at → none ≡ o) → o ≡ some n → at < length numbers
  inside_of past e =
      cases _
      (λ f. ltb-true at (length numbers) f)
      (λ f. none-some (past (omega (arith, borrow.Author.Tests.ltb-false at (length numbers) f)) ∙ e))

  pub time-inside : {n : ℕ} → time_at numbers at ≡ some n → at < length numbers
  time-inside e = inside_of time-past e

  pub u-inside : {n : ℕ} → u_at numbers at ≡ some n → at < length numbers
  u-inside e = inside_of u-past e

  -- a time that is read is a double of so many 64ths
  pub time-is : {n : ℕ} → time_at numbers at ≡ some n → Is (get_or numbers at nan) n time_parts × (n ≤ max_time_parts)
  unfolding time_at
  time-is {n} e = parts_is time_parts max_time_parts (pow_pos 6) (get_or numbers at nan) n e

  -- a u that is read is a double of so many 65,536ths
  pub u-is : {n : ℕ} → u_at numbers at ≡ some n → Is (get_or numbers at nan) n draw_parts × (n ≤ draw_parts)
  unfolding u_at
  u-is {n} e = parts_is draw_parts draw_parts (pow_pos 16) (get_or numbers at nan) n e

  -- on either scale
  pub counted-past : (scale : Scale) → length numbers ≤ at → none ≡ counted_at scale numbers at
  counted-past Time h = time-past h
  counted-past Draw h = u-past h

  pub counted-there : (scale : Scale) → counted scale (get_or numbers at nan) ≡ counted_at scale numbers at
  unfolding time_at u_at
  counted-there Time = refl
  counted-there Draw = refl

-- ---- Fixed time and spread

module _ (numbers : List Float) (first : ℕ) where
  pub fixed-refused : time_at numbers first ≡ none → Chosen numbers none (fixed_at numbers first)
  unfolding fixed_at continue
  fixed-refused e = rw e tt

  pub fixed-taken : {n : ℕ} → time_at numbers first ≡ some n
      → Chosen numbers (some (Fixed (get_or numbers first nan))) (fixed_at numbers first)
  unfolding fixed_at continue
  fixed-taken e = rw e (time-is numbers first e)

  pub spread_no_mean : time_at numbers first ≡ none → Chosen numbers none (spread_at numbers first)
  unfolding spread_at continue
  spread_no_mean e = rw e tt

  module _ {mean : ℕ} (e : time_at numbers first ≡ some mean) where
    pub spread_no_half : time_at numbers (first + 1) ≡ none → Chosen numbers none (spread_at numbers first)
    unfolding spread_at continue
    spread_no_half f = rw (e, f) tt

    module _ {half : ℕ} (f : time_at numbers (first + 1) ≡ some half) where
      -- a half width above the mean would give times below 0
      pub spread_wide : mean < half → Chosen numbers none (spread_at numbers first)
      unfolding spread_at continue ask
      spread_wide h = rw (e, f, lt-leb half mean h) tt

      -- a mean above half the limit could give times above it
      pub spread-late : half ≤ mean → max_mean_parts < mean → Chosen numbers none (spread_at numbers first)
      unfolding spread_at continue ask
      spread-late h k = rw (e, f, le-leb half mean h, lt-leb mean max_mean_parts k) tt

      pub spread-taken : half ≤ mean → mean ≤ max_mean_parts →
          Chosen numbers (some (Spread (get_or numbers first nan) (get_or numbers (first + 1) nan))) (spread_at numbers first)
      unfolding spread_at continue ask
      spread-taken h k =
          rw (e, f, le-leb half mean h, le-leb mean max_mean_parts k)
          (record {
            mean-is = (time-is numbers first e).0;
            half_is = (time-is numbers (first + 1) f).0;
            half-most = h;
            mean-most = k;
          })
