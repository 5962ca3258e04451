-- Tests that are joined, and choices: each law splits the tests and computes.
use Rattle.machine.specs.All.{◌≡◌, refl, sym, Bool, true, false, cond, ◌&&◌, ◌||◌, true≢false, false≢true}

-- what holds of both arms of a choice, each under its test's answer, holds of the choice
pub cond_cases : {A : Type 0} (P : A → Type 0) (b : Bool) (x y : A) → (b ≡ true → P x) → (b ≡ false → P y) → P (cond b x y)
cond_cases P true x y f g = f refl
cond_cases P false x y f g = g refl

pub and_true : (a b : Bool) → (a && b) ≡ true → (a ≡ true) × (b ≡ true)
and_true true b e = (refl, e)
and_true false b e = absurd (false≢true e)

pub and-three : (a b c : Bool) → (a && b && c) ≡ true → (a ≡ true) × (b ≡ true) × (c ≡ true)
and-three a b c e = let (both, z) = and_true (a && b) c e in let (x, y) = and_true a b both in (x, y, z)

pub or_false : (a b : Bool) → (a || b) ≡ false → (a ≡ false) × (b ≡ false)
or_false true b e = absurd (true≢false e)
or_false false b e = (refl, e)

-- a second test that is asked only where the first says yes
pub cond_true : (a b : Bool) → cond a b false ≡ true → (a ≡ true) × (b ≡ true)
cond_true true b e = (refl, e)
cond_true false b e = absurd (false≢true e)

-- a second test that is asked only where the first says no
pub cond_false : (a b : Bool) → cond a false b ≡ true → (a ≡ false) × (b ≡ true)
cond_false true b e = absurd (false≢true e)
cond_false false b e = (refl, e)
