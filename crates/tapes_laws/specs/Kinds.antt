-- The numbers of the kinds of distributions.
use Rattle.std.specs.Prelude.{ℕ, ◌≡◌, Option, MatchOption}
use Rattle.tapes_laws.specs.declared.Kind.{Kind}
use Rattle.tapes_laws.specs.declared.Kind.TheVariants.{Fixed, Spread, Curve}

abbrev pub kind_number : Kind → ℕ
kind_number Fixed = 0
kind_number Spread = 1
kind_number Curve = 2

-- the kind of a number, if it has one
abbrev pub Names : ℕ → Option Kind → Type 0
Names n found = MatchOption found ((k : Kind) → kind_number k ≡ n → ⊥) (λ k. kind_number k ≡ n)
