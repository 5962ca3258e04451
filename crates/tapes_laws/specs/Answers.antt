-- What the answers of this crate say in the paper's terms.
use Rattle.machine.specs.All.{ℕ, Bool, true, false, List, length}
use Rattle.std.specs.Prelude.{Float, ◌≡◌, Option, None as none, Some as some, Result, Ok, Err}
use Rattle.constants.specs.Numbers.{refusal_number}
use Rattle.constants.specs.declared.refusals.Refusal.{Refusal}
use Rattle.tapes_laws.specs.{Options.◌>>=◌, Options.◌>>◌, Options.ask, Source.Point, Given.point_at, Given.follows, Tape.Making, Tape.made, Tape.refusal}

-- an answer says how many bytes the tape has, or the number of the refusal
abbrev pub Says : Result ℕ Refusal → Making → Type 0
Says (Ok n) (made b) = n ≡ length b
Says (Ok n) (refusal k) = ⊥
Says (Err e) (made b) = ⊥
Says (Err e) (refusal k) = refusal_number e ≡ k

-- ---- Points

-- the next point, if it follows
unfoldable pub step_of : List Float → ℕ → Point → Option Point
step_of numbers at p = do
  q ← point_at numbers at
  ask (follows p q)
  some q

unfoldable pub is_given : {A : Type 0} → Option A → Bool
is_given none = false
is_given (some a) = true
