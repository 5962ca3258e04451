-- What a call of the join promises, for all bytes and lengths.
use Rattle.std.specs.Prelude.{◌++◌, ◌≡◌, Result, Ok, IsErrAnd}
use Rattle.machine.specs.All.{ℕ, List, length, drop}
use Rattle.constants.specs.declared.refusals.Refusal.{Refusal}
use Rattle.constants.specs.Numbers.{refusal_number}
use Rattle.join_laws.specs.Joining.{Joining, joined, refused}

abbrev pub Joined : Type 0
Joined = Result (ℕ × ℕ) Refusal

-- how many bytes the joined model and tape have, or the refusal of that number
abbrev pub Answers : Joined → Joining → Type 0
Answers r (joined model tape) = r ≡ Ok (length model, length tape)
Answers r (refused n) = IsErrAnd r (λ x. refusal_number x ≡ n)

-- "Refused calls write nothing"; what stands behind the bytes written stays
unfoldable pub model_left : Joining → List ℕ → List ℕ
model_left (joined model tape) before = model ++ drop (length model) before
model_left (refused n) before = before

unfoldable pub tape_left : Joining → List ℕ → List ℕ
tape_left (joined model tape) before = tape ++ drop (length tape) before
tape_left (refused n) before = before

-- the two outputs lent, what the call answers, and the outputs behind it, by what is wanted
pub record Contract (model tape : List ℕ) (r : Joined) (model' tape' : List ℕ) (wanted : Joining) : Type 0 where
  pub answered : Answers r wanted
  pub model-left : model' ≡ model_left wanted model
  pub tape-left : tape' ≡ tape_left wanted tape
