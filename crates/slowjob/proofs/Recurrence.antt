-- One service time raised by d: of the recurrence, each end is no earlier and at most d later, and how that fades.
use Rattle.machine.specs.All.{ℕ, zero, suc, ◌+◌, ◌≤◌, ◌≡◌, refl, List, [], ◌∷◌, arith, eqb-true, eqb-false, get_or, ap, Bool, true, false, eqb}
use Rattle.slowjob.specs.{raised, leaves, Fades}

abbrev Within : (d before after : ℕ) → Type 0
Within d before after = (before ≤ after) × (after ≤ before + d)

-- another time than the raised one, and the raised one
raised-other : (l : List ℕ) (i d k : ℕ) → (k ≡ i → ⊥) → get_or (raised i d l) k 0 ≡ get_or l k 0
unfolding raised
raised-other [] i d k ne = refl
raised-other (x ∷ l) zero d zero ne = absurd (ne refl)
raised-other (x ∷ l) zero d (suc k) ne = refl
raised-other (x ∷ l) (suc i) d zero ne = refl
raised-other (x ∷ l) (suc i) d (suc k) ne = raised-other l i d k (λ e. ne (ap suc e))

raised-most : (l : List ℕ) (i d : ℕ) → Within d (get_or l i 0) (get_or (raised i d l) i 0)
unfolding raised
raised-most [] i d = (omega arith, omega arith)
raised-most (x ∷ l) zero d = (omega arith, omega arith)
raised-most (x ∷ l) (suc i) d = raised-most l i d

module _ (arrivals services : List ℕ) (i d : ℕ) where
  abbrev before : ℕ → ℕ
  before = leaves arrivals services

  abbrev after : ℕ → ℕ
  after = leaves arrivals (raised i d services)

  -- up to the raised time nothing is later; behind it, at most by d
  reach : (k : ℕ) → (k ≤ i → after k ≡ before k) × Within d (before k) (after k)
  unfolding leaves
  reach zero = (λ le. refl, (omega arith, omega arith))
  reach (suc k) = go (eqb k i) refl (reach k)
    where
      go : (b : Bool) → eqb k i ≡ b → ((k ≤ i → after k ≡ before k) × Within d (before k) (after k))
          → (suc k ≤ i → after (suc k) ≡ before (suc k)) × Within d (before (suc k)) (after (suc k))
      go true e h =
          let at : k ≡ i = eqb-true _ _ e in
          let same : after k ≡ before k = h.0 (omega arith) in
          let time : Within d (get_or services k 0) (get_or (raised i d services) k 0) = rw at (raised-most services i d) in
          (λ le. absurd (omega arith), (omega (arith, time), omega (arith, time)))
      go false e h =
          let same : get_or (raised i d services) k 0 ≡ get_or services k 0 = raised-other services i d k (eqb-false _ _ e) in
          (λ le. let equal : after k ≡ before k = h.0 (omega arith) in omega arith, (omega (arith, h.1), omega (arith, h.1)))

  pub leaves-late : (k : ℕ) → Within d (before k) (after k)
  leaves-late k = (reach k).1

pub fades : Fades
unfolding leaves
fades arrivals services i d k other =
    omega (arith, raised-other services i d k other, leaves-late arrivals services i d k)
